use Rattle.std.proofs.Common.{rules}
use Rattle.fk_lex.specs.Steps
use Rattle.fk_lex.proofs.literal.character_step.Goals as goal

pub returns : goal.returns
unfolding Steps.character_step
returns c = search rules
