-- A run in memory behind so many rounds of a schedule.
use Rattle.std.specs.Prelude.{◌≡◌, ℕ, suc, ◌+◌, ◌*◌, ◌^◌, ◌<◌, ◌≤◌, true, List, [], Option, Some}
use Rattle.std.specs.Prelude.{None, length, slice_get}
use Rattle.fk_tree.specs.View.{tree_of}
use Rattle.fk_meaning_store.specs.View.{store_of}
use Rattle.fk_meaning_state.specs.View.{setting_of}
use Rattle.fk_meaning.specs.Processor.{Setting}
use Rattle.fk_meaning.specs.Round.{State, Round, result, is_possible, IsStopped}
use Rattle.fk_meaning.specs.Schedule.{Schedule}
use Rattle.fk_core.specs.declared.op.CoreOp.{CoreOp}
use Rattle.fk_core.specs.Next.{Position, next}
use Rattle.fk_replay_text.specs.declared.fault.ReplayFault.{ReplayFault}
use Rattle.fk_replay_text.specs.declared.fault.ReplayFault.TheVariants.{BadTrace, NotPossible}
use Rattle.fk_replay_text.specs.declared.fault.ReplayFault.TheVariants.{Pace, Memory}
use Rattle.fk_replay_schedules.specs.Answers.{after, IsLate, IsNotPossible, IsPassedOver}
use Rattle.fk_replay_schedules.specs.Paced.{IsPaced, ArePassed}
use Rattle.fk_replay_steps.specs.Pace.{since}
use Rattle.fk_replay_phases.specs.Actors.{fault_of}
use Rattle.fk_replay_phases.specs.declared.phases.Fault.{Fault}
use Rattle.fk_replay_run.specs.declared.run.Run.{Run}
use Rattle.fk_replay_run.specs.Told.{KnowsAbout}
use Rattle.fk_replay_run.specs.Steady.{IsSteady}
use Rattle.fk_replay_run.specs.Runs.{IsRun, state_of}

module _ (core : List CoreOp) (set : Setting) (schedule : Schedule) (first : State Position) where
  abbrev behind : ℕ → State Position
  behind n = after (next core) set schedule first n

  -- a run has done the first n rounds. If others follow, it is known who could act
  pub record HasDone (n : ℕ) (r : Run) : Type 0 where
    pub run : IsRun r
    pub setting : setting_of r.setting ≡ set
    pub state : state_of r ≡ behind n
    pub given : (tree_of r.tree).given ≤ 1 + n * 2 ^ 28
    pub passed : ArePassed (next core) set schedule first n
    pub paced : n < length schedule → IsPaced (next core) set schedule first (since r.pace) n
    pub knows : n < length schedule → KnowsAbout core r []

  -- it has done all rounds but the last one, which is stopped by a fault and late for nobody
  pub record HasStopped (r : Run) (by : Fault) : Type 0 where
    pub n : ℕ
    pub last : suc n ≡ length schedule
    pub round : Round
    pub is : slice_get schedule n ≡ Some round
    pub passed : ArePassed (next core) set schedule first n
    pub stopped : IsStopped (next core) set round (behind n)
    pub on_time : (h : ℕ) → IsLate (next core) set schedule first (suc n) h → ⊥
    pub fault : (result (next core) set round (behind n)).fault ≡ Some (fault_of core by)
    pub store : store_of r.store ≡ (result (next core) set round (behind n)).store

  abbrev pub HasFollowed : Run → Option Fault → Type 0
  HasFollowed run None = HasDone (length schedule) run
  HasFollowed run (Some fault) = HasStopped run fault

  -- why the schedule isn't followed to its end
  abbrev pub IsUnlawful : ReplayFault → Type 0
  IsUnlawful (NotPossible round) = IsNotPossible (next core) set schedule first round
  IsUnlawful (Pace round h) = IsPassedOver (next core) set schedule first round h
  IsUnlawful (BadTrace line) = ⊥
  IsUnlawful Memory = Unit {0}

  -- the first n rounds are possible
  abbrev pub AreFirstPossible : (n : ℕ) → Type 0
  AreFirstPossible n =
      (m : ℕ) (round : Round) → m < n → slice_get schedule m ≡ Some round
      → is_possible (next core) set round (behind m) ≡ true

  -- before each round that follows possible ones the state is steady
  abbrev pub AreSteady : Type 0
  AreSteady =
      (n : ℕ) → AreFirstPossible n → (behind n).fault ≡ None → IsSteady core set (behind n)
