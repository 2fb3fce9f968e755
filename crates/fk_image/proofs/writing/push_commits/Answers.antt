use Rattle.std.proofs.Common.{arith}
use Rattle.std.proofs.lemmas.Grind.{common_steps}
use Rattle.fk_image.specs.Spelling.{commit_words}
use Rattle.fk_image.proofs.Parts.{words-take_more}
use Rattle.fk_image.proofs.writing.push_commits.Goals as goal

pub loop-commit-preserved : goal.loop-commit-preserved
loop-commit-preserved c = record {
  bytes = grind (arith, common_steps);
  words = words-take_more commit_words c.args.commits.now c.loop-commit.commit-index (0, 0) c.loop-commit-test.true c.loop-commit.invariant.words c.in_ok-push_words.ensures.words;
}
