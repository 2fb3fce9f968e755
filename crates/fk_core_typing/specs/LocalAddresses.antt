-- Knowledge of addresses, given by each operation and those that follow it.
use Rattle.std.specs.Prelude.{◌≡◌, ℕ, suc, Bool, true, false, List, [], length, Option, slice_get}
use Rattle.std.specs.Prelude.{Some}
use Rattle.fk_meaning_operation.specs.declared.operation.Operation.{Operation}
use Rattle.fk_meaning_operation.specs.declared.operation.Operation.TheVariants.{Enter, Leave, Halt}
use Rattle.fk_meaning_operation.specs.declared.operation.Operation.TheVariants.{Read, Write}
use Rattle.fk_meaning_operation.specs.declared.operation.Operation.TheVariants.{Combine}
use Rattle.fk_core.specs.declared.op.CoreOp.{CoreOp}
use Rattle.fk_core.specs.Numbers.{operation_of}
use Rattle.fk_core.specs.Next.{is_jump, behind_jump, follows}
use Rattle.fk_lockstep_frames.specs.Nests.{Nest}
use Rattle.fk_lockstep_frames.specs.Lists.{HasLocalFrames}
use Rattle.fk_sim_block.specs.Lists.{AlwaysMay}
use Rattle.fk_core_liveness.specs.declared.places.FunctionKind.{FunctionKind}
use Rattle.fk_core_liveness.specs.declared.places.FunctionKind.TheVariants.{Main, Called}
use Rattle.fk_core_typing.specs.declared.change.Change.{Change}
use Rattle.fk_core_typing.specs.declared.constants.Constant.{Constant}
use Rattle.fk_core_typing.specs.declared.constants.Constants.{Constants}
use Rattle.fk_core_typing.specs.AddressValues.{after, change, called, unchanged, no_constants}
use Rattle.fk_core_typing.specs.AddressValues.{constants_behind}

-- A constant that is known here is also known elsewhere.
abbrev pub IsSameIn : (here elsewhere : Option Constant) → Type 0
IsSameIn here elsewhere = (c : Constant) → here ≡ Some c → elsewhere ≡ Some c

pub record AreSameIn (here elsewhere : Constants) : Type 0 where
  pub last : IsSameIn here.last elsewhere.last
  pub second : IsSameIn here.second elsewhere.second

-- For each index: the nests of its call; the function in which it is; the values of its call that
-- are addresses which may be used, or also by a multiprefix; and the constants that the last values
-- are.
module _ (core : List CoreOp) (nests : (index : ℕ) → List Nest)
    (within : (index : ℕ) → FunctionKind)
    (known : (shared_alone : Bool) (index value : ℕ) → Bool)
    (constants : (index : ℕ) → Constants) where
  -- The call goes on from index i at index j. What is known at j holds after the change.
  pub record Leads (changes : (shared_alone : Bool) → Change) (behind : Constants)
      (i j : ℕ) : Type 0 where
    pub inside : within j ≡ within i
    pub is_known : (shared_alone : Bool) (value : ℕ) → known shared_alone j value ≡ true
        → after (changes shared_alone) (known shared_alone i) value ≡ true
    pub same : AreSameIn (constants j) behind

  pub record KnowsNothing (i : ℕ) : Type 0 where
    pub addresses : (shared_alone : Bool) (value : ℕ) → known shared_alone i value ≡ false
    pub same : AreSameIn (constants i) no_constants

  -- A call begins at the next index, and goes on after the jump to its function.
  pub record Calls (arguments i : ℕ) : Type 0 where
    pub gives : Bool
    pub inside : within (suc i) ≡ Called gives
    pub begins : KnowsNothing (suc i)
    pub back : Leads (λ shared_alone. called arguments gives) no_constants i
        (behind_jump core (suc i))

  abbrev pub GoesOn : Operation → (i target : ℕ) → Type 0
  GoesOn (Enter arguments) i target = Calls arguments i
  GoesOn (Leave gives framed) i target = within i ≡ Called gives
  GoesOn Halt i target = within i ≡ Main
  GoesOn operation i target =
      (onward : Bool)
      → Leads (λ shared_alone.
      change shared_alone (nests i) operation onward (known shared_alone i 0) (constants i))
      (constants_behind operation (constants i)) i (follows core operation i target [] onward).at

  -- The values that an operation uses as addresses are known to be addresses.
  abbrev pub Asks : Operation → (i : ℕ) → Type 0
  Asks Read i = known false i 0 ≡ true
  Asks Write i = known false i 1 ≡ true
  Asks (Combine operator) i = known true i 1 ≡ true
  Asks operation i = Unit {0}

  pub record Fits (i target : ℕ) (operation : Operation) : Type 0 where
    pub asks : Asks operation i
    pub goes_on : GoesOn operation i target

  -- An index in `main` at which nothing is known.
  pub record IsBare (i : ℕ) : Type 0 where
    pub inside : within i ≡ Main
    pub nothing : KnowsNothing i

-- Knowledge of addresses for a list whose indices tell the nests of their calls. Nothing is known
-- where `main` begins, and at the list's end.
pub record HasKnowledge (core : List CoreOp) (main : ℕ) (nests : (index : ℕ) → List Nest)
    : Type 0 where
  pub within : (index : ℕ) → FunctionKind
  pub known : (shared_alone : Bool) (index value : ℕ) → Bool
  pub constants : (index : ℕ) → Constants
  pub begins : IsBare core nests within known constants main
  pub ends : IsBare core nests within known constants (length core)
  pub jumps : (i : ℕ) (op : CoreOp) → slice_get core i ≡ Some op → is_jump op ≡ true
      → Leads core nests within known constants (λ shared_alone. unchanged) (constants i) i
      op.target
  pub fits : (i : ℕ) (op : CoreOp) (operation : Operation) → slice_get core i ≡ Some op
      → operation_of op.kind op.number ≡ Some operation
      → Fits core nests within known constants i op.target operation

-- The knowledge of a list suffices for each address that is used. Frames lie in spaces.
abbrev pub KnowledgeIsEnough : Type 0
KnowledgeIsEnough = (core : List CoreOp) (main : ℕ) (local : HasLocalFrames core main)
    → HasKnowledge core main local.nests → AlwaysMay core main
