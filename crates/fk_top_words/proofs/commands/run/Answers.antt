use Rattle.std.proofs.Common.{codes}
use Rattle.fk_top_words.specs.Arguments.{Show}
use Rattle.fk_top_words.specs.Written.{exec_parts, leaf, written}
use Rattle.fk_top_words.proofs.commands.run.Goals as goal

pub returns : goal.returns
returns c = c.taking.ensures (leaf (codes "run") exec_parts) (written Show) c.option.ensures.rule c.running.ensures
