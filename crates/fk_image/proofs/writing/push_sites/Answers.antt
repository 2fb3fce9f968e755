use Rattle.std.proofs.Common.{arith}
use Rattle.std.proofs.lemmas.Grind.{common_steps}
use Rattle.fk_image.specs.Spelling.{site_words}
use Rattle.fk_image.proofs.Parts.{words-take_more}
use Rattle.fk_image.proofs.writing.push_sites.Goals as goal

pub loop-site-preserved : goal.loop-site-preserved
loop-site-preserved c = record {
  bytes = grind (arith, common_steps);
  words = words-take_more site_words c.args.sites.now c.loop-site.site-index (0, 0, 0) c.loop-site-test.true c.loop-site.invariant.words c.in_ok-push_words.ensures.words;
}
