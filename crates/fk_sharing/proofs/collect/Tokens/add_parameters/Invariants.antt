-- The tokens so far, and those of what is left, are those before and those of all.
use Rattle.std.proofs.Common.{◌≡◌, ◌++◌, map, drop}
use Rattle.fk_syntax.specs.ProgramView.{declared_of}
use Rattle.fk_sharing.specs.Tokens.{parameters_tokens}
use Rattle.fk_sharing.specs.TokensView.{seen_in}
use Rattle.fk_sharing.proofs.collect.Tokens.add_parameters.Given as goal

abbrev pub invariant-loop-parameter : goal.invariant-loop-parameter
invariant-loop-parameter l = seen_in l.into ++ (parameters_tokens l.around l.mode (map declared_of (drop l.parameter-index l.parameters))) ≡ seen_in l.fn.into ++ (parameters_tokens l.around l.mode (map declared_of l.parameters))
