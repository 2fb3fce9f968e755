-- What operations do with values and parts is the same as they are shown.
use Rattle.std.proofs.Common.{Bool, true, false, ◌≡◌, ℕ, ◌-◌, ◌^◌, ◌<◌, ◌≤◌, arith}
use Rattle.fk_meaning_operation.specs.declared.operation.Operation.{Operation}
use Rattle.fk_layout_walk.specs.Shown.{shown}
use Rattle.fk_layout_sizes.specs.Operations.{takes, pushes, nests, results}

pub pushes_one : (op : Operation) → pushes op ≤ 1
pushes_one op = grind arith

pub nests_one : (op : Operation) → nests op ≤ 1
nests_one op = grind arith

pub same_takes : (op : Operation) (values : ℕ) → values < 2 ^ 32 → values - takes (shown op) ≡ values - takes op
same_takes op values h = grind arith

pub same_pushes : (op : Operation) → pushes (shown op) ≡ pushes op
same_pushes op = grind arith

pub same_nests : (op : Operation) → nests (shown op) ≡ nests op
same_nests op = grind arith

pub results_one : (void : Bool) → results void ≤ 1
results_one true = omega arith
results_one false = omega arith
