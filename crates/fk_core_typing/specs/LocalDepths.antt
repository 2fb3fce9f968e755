-- The depths of a flat list, given by each operation and those that follow it.
use Rattle.std.specs.Prelude.{◌≡◌, ℕ, ◌+◌, ◌-◌, ◌≤◌, Bool, true, false, List, [], slice_get}
use Rattle.std.specs.Prelude.{Some, if◌then◌else◌}
use Rattle.fk_meaning_operation.specs.declared.operation.Operation.{Operation}
use Rattle.fk_meaning_operation.specs.declared.operation.Operation.TheVariants as o
use Rattle.fk_meaning_operation.specs.declared.operation.SplitKind.TheVariants.{AndThen, OrElse}
use Rattle.fk_layout_sizes.specs.Operations.{takes, pushes}
use Rattle.fk_core.specs.declared.op.CoreOp.{CoreOp}
use Rattle.fk_core.specs.Numbers.{operation_of}
use Rattle.fk_core.specs.Next.{landing, behind_jump, follows}
use Rattle.fk_core.specs.WellFormed.{HasDepths}
use Rattle.fk_core_typing.specs.declared.places.Within.{Within}
use Rattle.fk_core_typing.specs.declared.places.Within.TheVariants.{Main, Called}

abbrev pub results : (gives : Bool) → ℕ
results gives = if gives then 1 else 0

-- The number of values that an operation needs. A group agrees on the last value, which stays.
abbrev pub needs : Operation → ℕ
needs o.Agree = 1
needs operation = takes operation

-- The number of values that an operation pushes, by the branch that it takes. Members that wait at
-- `&&` and `||` get the value of the whole.
abbrev pub leaves : Operation → (onward : Bool) → ℕ
leaves (o.Split AndThen) false = 1
leaves (o.Split OrElse) false = 1
leaves operation onward = pushes operation

-- The operations that go on in their function.
abbrev pub is_ordinary : Operation → Bool
is_ordinary (o.Enter arguments) = false
is_ordinary (o.Leave gives framed) = false
is_ordinary o.Halt = false
is_ordinary operation = true

module _ (core : List CoreOp) (within : (index : ℕ) → Within) where
  -- The operation that comes next from an index has this many values before it, and is in this
  -- function.
  abbrev pub Comes : (index values : ℕ) → Within → Type 0
  Comes index values place =
      (op : CoreOp) → slice_get core (landing core index) ≡ Some op
      → (values ≡ op.depth) × (within (landing core index) ≡ place)

  -- A call: a function begins without values, and after the call its result is in place of the
  -- arguments.
  abbrev pub Enters : (index depth arguments : ℕ) → (gives : Bool) → Within → Type 0
  Enters index depth arguments gives place =
      Comes (index + 1) 0 (Called gives)
      × Comes (behind_jump core (index + 1)) (depth - arguments + results gives) place

  -- After an operation with `depth` values come those that it leaves. A function with a result ends
  -- with one.
  abbrev pub GoesOn : Operation → (index target depth : ℕ) → Within → Type 0
  GoesOn (o.Enter arguments) index target depth place = (gives : Bool)
      × Enters index depth arguments gives place
  GoesOn (o.Leave gives framed) index target depth place = place ≡ Called gives
  GoesOn o.Halt index target depth place = place ≡ Main
  GoesOn operation index target depth place =
      (onward : Bool) → Comes (follows core operation index target [] onward).at
      (depth - takes operation + leaves operation onward) place

  -- The operation at an index fits, if there is one.
  abbrev pub FitsAt : (index : ℕ) → Type 0
  FitsAt index =
      (op : CoreOp) (operation : Operation) → slice_get core index ≡ Some op
      → operation_of op.kind op.number ≡ Some operation
      → (needs operation ≤ op.depth) × GoesOn operation index op.target op.depth (within index)

-- The depths of a list, and the functions in which its operations are, such that `main` begins
-- without values.
pub record HasLocalDepths (core : List CoreOp) (main : ℕ) : Type 0 where
  pub within : (index : ℕ) → Within
  pub begins : Comes core within main 0 Main
  pub fits : (index : ℕ) → FitsAt core within index

-- The local depths of a list are its depths in every run.
abbrev pub LocalDepthsAreDepths : Type 0
LocalDepthsAreDepths = (core : List CoreOp) (main : ℕ) → HasLocalDepths core main
    → HasDepths core main
