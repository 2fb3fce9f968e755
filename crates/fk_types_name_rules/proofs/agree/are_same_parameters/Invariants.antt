-- The parameters so far are the same.
use Rattle.std.proofs.Common.{ℕ, ◌<◌, map}
use Rattle.fk_syntax.specs.ProgramView.{declared_of}
use Rattle.fk_types_name_rules.proofs.HeaderLemmas.{SameAt}
use Rattle.fk_types_name_rules.proofs.agree.are_same_parameters.Given as goal

abbrev pub invariant-loop-at : goal.invariant-loop-at
invariant-loop-at l = (k : ℕ) → k < l.at → SameAt (map declared_of l.parameters) (map declared_of l.others) k
