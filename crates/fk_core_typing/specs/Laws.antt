-- Laws of the flat lists of well typed code.
use Rattle.std.specs.Prelude.{◌≡◌, ℕ, ◌+◌, ◌<◌, ◌≤◌, List, [], slice_get, Bool, true, false, Option}
use Rattle.std.specs.Prelude.{Some, None}
use Rattle.fk_meaning_operation.specs.declared.operation.Operation.{Operation}
use Rattle.fk_meaning_forms.specs.Code.{Code}
use Rattle.fk_core.specs.declared.op.CoreOp.{CoreOp}
use Rattle.fk_core.specs.Numbers.{operation_of}
use Rattle.fk_core.specs.Next.{is_jump, follows}
use Rattle.fk_core.specs.WellFormed.{IsOperation}
use Rattle.fk_core_flat.specs.Flat.{extent}
use Rattle.fk_core_flat.specs.Laws.{AreShaped, IsFlat}
use Rattle.fk_sim_block.specs.Lists.{is_end, StaysInList}
use Rattle.fk_lockstep_frames.specs.Lists.{HasLocalFrames}
use Rattle.fk_core_typing.specs.LocalDepths.{HasLocalDepths}
use Rattle.fk_core_liveness.specs.declared.places.FunctionKind.{FunctionKind}
use Rattle.fk_core_liveness.specs.declared.places.FunctionKind.TheVariants.{Main}
use Rattle.fk_core_typing.specs.LocalAddresses.{HasKnowledge}
use Rattle.fk_core_typing.specs.Typed.{AreTyped}
use Rattle.fk_core_typing.specs.Heights.{HasHeights}

module _ (bodies : (binding : ℕ) → Code ℕ) (core : List CoreOp) (entry : ℕ → ℕ)
    (place_of : (binding : ℕ) → FunctionKind) (frame_of : (binding : ℕ) → Option ℕ) where
  -- An index is in the code of a function.
  abbrev pub LiesIn : (place : ℕ → ℕ) → (index binding : ℕ) → Type 0
  LiesIn place i f = (place f ≤ i) × (i < place f + extent false (bodies f))

  -- A flat list of well typed functions, in which no index is in the code of two. Each function is
  -- `main`, or one that is called.
  pub record IsTypedList : Type 0 where
    pub shaped : AreShaped bodies
    pub flat : IsFlat bodies core entry
    pub apart : (i f g : ℕ) → LiesIn flat.place i f → LiesIn flat.place i g → f ≡ g
    pub typed : AreTyped place_of frame_of bodies

-- Jumps lead to operations, and every operation that isn't an end goes on inside the list.
pub record LeadsWithin (core : List CoreOp) : Type 0 where
  pub jumps : (i : ℕ) (op : CoreOp) → slice_get core i ≡ Some op → is_jump op ≡ true
      → IsOperation core op.target
  pub within : (i : ℕ) (op : CoreOp) (operation : Operation) → slice_get core i ≡ Some op
      → operation_of op.kind op.number ≡ Some operation → is_end operation ≡ false
      → (onward : Bool) → StaysInList core (follows core operation i op.target [] onward)

-- The depth of each operation of a list is given by its site, and is the number of values that the
-- code before it leaves.
pub record HasHeightsOf (bodies : (binding : ℕ) → Code ℕ) (core : List CoreOp)
    (place_of : (binding : ℕ) → FunctionKind) : Type 0 where
  pub depth : (site : ℕ) → ℕ
  pub told : (i : ℕ) (op : CoreOp) (operation : Operation) → slice_get core i ≡ Some op
      → operation_of op.kind op.number ≡ Some operation → op.depth ≡ depth op.site
  pub heights : (binding : ℕ) → HasHeights place_of depth 0 (bodies binding)

abbrev pub TypedListsLeadWithin : Type 0
TypedListsLeadWithin =
    (bodies : (binding : ℕ) → Code ℕ) (core : List CoreOp) (entry : ℕ → ℕ)
    (place_of : (binding : ℕ) → FunctionKind) (frame_of : (binding : ℕ) → Option ℕ)
    → IsTypedList bodies core entry place_of frame_of → LeadsWithin core

abbrev pub TypedListsKnow : Type 0
TypedListsKnow =
    (bodies : (binding : ℕ) → Code ℕ) (core : List CoreOp) (entry : ℕ → ℕ)
    (place_of : (binding : ℕ) → FunctionKind) (frame_of : (binding : ℕ) → Option ℕ)
    → IsTypedList bodies core entry place_of frame_of
    → (main : ℕ) → place_of main ≡ Main → frame_of main ≡ None
    → (local : HasLocalFrames core (entry main)) × HasKnowledge core (entry main) local.nests

abbrev pub TypedListsHaveDepths : Type 0
TypedListsHaveDepths =
    (bodies : (binding : ℕ) → Code ℕ) (core : List CoreOp) (entry : ℕ → ℕ)
    (place_of : (binding : ℕ) → FunctionKind) (frame_of : (binding : ℕ) → Option ℕ)
    → IsTypedList bodies core entry place_of frame_of → HasHeightsOf bodies core place_of
    → (main : ℕ) → place_of main ≡ Main → HasLocalDepths core (entry main)
