use Rattle.std.proofs.Common.{rules, arith}
use Rattle.std.proofs.lemmas.Grind.{common_steps}
use Rattle.fk_lex.specs.Steps
use Rattle.fk_lex.proofs.gap.directive_step.Goals as goal

pub returns-then-is_include : goal.returns-then-is_include
unfolding Steps.directive_step
returns-then-is_include c = search rules

pub returns-else-only_blanks : goal.returns-else-only_blanks
unfolding Steps.directive_step
returns-else-only_blanks c = grind (arith, common_steps)
