-- What a round makes of a run in memory.
use Rattle.std.specs.Prelude.{◌≡◌, ℕ, ◌+◌, ◌≤◌, ◌^◌, ◌==◌, Bool, true, false, List, [], ◌∷◌, Some}
use Rattle.std.specs.Prelude.{length}
use Rattle.fk_tree.specs.View.{tree_of, processors}
use Rattle.fk_meaning_store.specs.View.{store_of}
use Rattle.fk_meaning_state.specs.View.{setting_of}
use Rattle.fk_meaning.specs.Processor.{Setting}
use Rattle.fk_meaning.specs.Round.{Round, result, is_possible, IsStopped}
use Rattle.fk_meaning_operation.specs.declared.kinds.Joint.{Joint}
use Rattle.fk_core.specs.declared.op.CoreOp.{CoreOp}
use Rattle.fk_core.specs.Next.{next}
use Rattle.fk_replay_phases.specs.Present.{present, numbers_of}
use Rattle.fk_replay_phases.specs.Actors.{fault_of}
use Rattle.fk_replay_phases.specs.declared.phases.Fault.{Fault}
use Rattle.fk_replay_able.specs.Known.{DoesLowest}
use Rattle.fk_replay_arrivals.specs.Arrived.{arrived_in}
use Rattle.fk_replay_run.specs.declared.run.Run.{Run}
use Rattle.fk_replay_run.specs.Runs.{IsRun, state_of}
use Rattle.fk_replay_take.specs.declared.rounds.Outcome.{Outcome}
use Rattle.fk_replay_take.specs.declared.rounds.Outcome.TheVariants.{Possible, Stopped, NotPossible}

module _ (core : List CoreOp) (round : Round) (old new : Run) where
  abbrev pub set_in : Setting
  set_in = setting_of old.setting

  -- nobody has come any longer to the joint operations that are done in the round
  pub record HasForgotten : Type 0 where
    pub many : length new.arrived.items ≡ length old.arrived.items
    pub done : (h : ℕ) (joint : Joint) → DoesLowest (next core) set_in round (state_of old) h joint
        → arrived_in new.arrived.items h joint ≡ 0
    pub kept : (h : ℕ) (joint : Joint)
        → (DoesLowest (next core) set_in round (state_of old) h joint → ⊥)
        → arrived_in new.arrived.items h joint ≡ arrived_in old.arrived.items h joint

  -- the round is possible, and was done
  pub record IsDone : Type 0 where
    pub possible : is_possible (next core) set_in round (state_of old) ≡ true
    pub state : state_of new ≡ result (next core) set_in round (state_of old)
    pub run : IsRun new
    pub same : new.setting ≡ old.setting
    pub tree : processors new.tree ≡ processors old.tree
    pub pace : new.pace ≡ old.pace
    pub arrived : HasForgotten
    pub numbers : numbers_of new.acting.items ≡ present 0 round
    pub given : (tree_of new.tree).given ≤ (tree_of old.tree).given + 2 ^ 28

  -- the round is stopped by a fault, and the store is as it left it
  pub record IsStoppedBy (by : Fault) : Type 0 where
    pub stopped : IsStopped (next core) set_in round (state_of old)
    pub fault : (result (next core) set_in round (state_of old)).fault ≡ Some (fault_of core by)
    pub store : store_of new.store ≡ (result (next core) set_in round (state_of old)).store
    pub pace : new.pace ≡ old.pace
    pub numbers : numbers_of new.acting.items ≡ present 0 round

  pub record IsNeither : Type 0 where
    pub impossible : is_possible (next core) set_in round (state_of old) ≡ true → ⊥
    pub going_on : IsStopped (next core) set_in round (state_of old) → ⊥

  abbrev pub IsTaken : Outcome → Type 0
  IsTaken Possible = IsDone
  IsTaken (Stopped fault) = IsStoppedBy fault
  IsTaken NotPossible = IsNeither

-- whether a number is the last of some numbers
abbrev pub is_last_of : (number : ℕ) → List ℕ → Bool
is_last_of number [] = false
is_last_of number (n ∷ []) = n == number
is_last_of number (n ∷ m ∷ ns) = is_last_of number (m ∷ ns)
