-- The tokens so far, and those of what is left, are those before and those of all.
use Rattle.std.proofs.Common.{◌≡◌, ◌++◌, map, drop}
use Rattle.fk_syntax.specs.ProgramView.{declared_of}
use Rattle.fk_regions.specs.Tokens.{variables_tokens}
use Rattle.fk_regions.specs.TokensView.{seen_in}
use Rattle.fk_regions.proofs.collect.Tokens.add_variables.Given as goal

abbrev pub invariant-loop-variable : goal.invariant-loop-variable
invariant-loop-variable l = seen_in l.into ++ (variables_tokens l.around (map declared_of (drop l.variable-index l.variables))) ≡ seen_in l.fn.into ++ (variables_tokens l.around (map declared_of l.variables))
