-- What becomes of a run and its pace in one round of a trace, and in rounds without acts.
use Rattle.std.specs.Prelude.{◌≡◌, ℕ, suc, ◌<◌, ◌≤◌, Bool, true, false, ◌⊎◌, List, Option}
use Rattle.std.specs.Prelude.{Some, None}
use Rattle.fk_meaning_state.specs.View.{setting_of}
use Rattle.fk_meaning.specs.Round.{Round, is_possible, result, IsStopped}
use Rattle.fk_core.specs.declared.op.CoreOp.{CoreOp}
use Rattle.fk_core.specs.Next.{next}
use Rattle.fk_replay_text.specs.declared.fault.ReplayFault.{ReplayFault}
use Rattle.fk_replay_text.specs.declared.fault.ReplayFault.TheVariants.{BadTrace, NotPossible}
use Rattle.fk_replay_text.specs.declared.fault.ReplayFault.TheVariants.{Pace, Memory}
use Rattle.fk_replay_schedules.specs.Paced.{Leaves}
use Rattle.fk_replay_steps.specs.Pace.{Absences, IsLeastLate, since}
use Rattle.fk_replay_phases.specs.declared.phases.Fault.{Fault}
use Rattle.fk_replay_run.specs.declared.run.Run.{Run}
use Rattle.fk_replay_run.specs.Steady.{IsSteady}
use Rattle.fk_replay_run.specs.Told.{HasTold}
use Rattle.fk_replay_take.specs.Taken.{IsDone, IsStoppedBy}
use Rattle.fk_replay_run.specs.Runs.{state_of}

-- ---- late rounds

-- it is told for whom a round is late
abbrev pub TellsLate : Absences → (round : ℕ) → ReplayFault → Type 0
TellsLate absences round (Pace at h) = (at ≡ round) × IsLeastLate absences round (Some h)
TellsLate absences round (BadTrace line) = ⊥
TellsLate absences round (NotPossible at) = ⊥
TellsLate absences round Memory = ⊥

-- the rounds behind one of them, up to a last one, are late for nobody
abbrev pub AreOnTime : Absences → (behind last : ℕ) → Type 0
AreOnTime absences behind last =
    (round : ℕ) → behind < round → round ≤ last → IsLeastLate absences round None

-- the first late one of these rounds
pub record IsFirstLate (absences : Absences) (behind last round h : ℕ) : Type 0 where
  pub low : behind < round
  pub high : round ≤ last
  pub late : IsLeastLate absences round (Some h)
  pub first : (other : ℕ) → behind < other → other < round → IsLeastLate absences other None

abbrev pub TellsFirstLate : Absences → (behind last : ℕ) → ReplayFault → Type 0
TellsFirstLate absences behind last (Pace at h) = IsFirstLate absences behind last at h
TellsFirstLate absences behind last (BadTrace line) = ⊥
TellsFirstLate absences behind last (NotPossible at) = ⊥
TellsFirstLate absences behind last Memory = ⊥

-- ---- one round

-- if the round is possible, the state behind it is steady
abbrev pub IsSteadyBehind : List CoreOp → Round → Run → Type 0
IsSteadyBehind core round old =
    is_possible (next core) (setting_of old.setting) round (state_of old) ≡ true
    → IsSteady core (setting_of old.setting)
    (result (next core) (setting_of old.setting) round (state_of old))

module _ (core : List CoreOp) (round : Round) (number : ℕ) (is_last : Bool) (old : Run) where
  -- the round was done, or is the last one and was stopped by a fault
  abbrev pub HasTaken : Run → Option Fault → Type 0
  HasTaken new None = IsDone core round old new
  HasTaken new (Some fault) = (is_last ≡ true) × IsStoppedBy core round old new fault

  -- Then those who were in it left. It is late for nobody, and unless it is the last one it was
  -- told who could act after it
  pub record HasPassed (new : Run) (fault : Option Fault) : Type 0 where
    pub mid : Run
    pub taken : HasTaken mid fault
    pub left : Absences
    pub leaves : Leaves round (since old.pace) (since left)
    pub on_time : IsLeastLate left number None
    pub told : is_last ≡ false → HasTold core (suc number) (record mid { pace = left }) new
    pub last : is_last ≡ true → new ≡ record mid { pace = left }

  -- the round is possible, or is the last one and stopped
  abbrev pub IsGood : Type 0
  IsGood =
      (is_possible (next core) (setting_of old.setting) round (state_of old) ≡ true)
      ⊎ ((is_last ≡ true)
      × IsStopped (next core) (setting_of old.setting) round (state_of old))

  -- why it wasn't taken
  abbrev pub IsUntaken : ReplayFault → Type 0
  IsUntaken (NotPossible at) = (at ≡ number) × (IsGood → ⊥)
  IsUntaken (Pace at h) = ⊥
  IsUntaken (BadTrace line) = ⊥
  IsUntaken Memory = Unit {0}

  pub record IsTooLate (h : ℕ) : Type 0 where
    pub good : IsGood
    pub left : Absences
    pub leaves : Leaves round (since old.pace) (since left)
    pub late : IsLeastLate left number (Some h)

  abbrev pub IsRefused : ReplayFault → Type 0
  IsRefused (NotPossible at) = (at ≡ number) × (IsGood → ⊥)
  IsRefused (Pace at h) = (at ≡ number) × IsTooLate h
  IsRefused (BadTrace line) = ⊥
  IsRefused Memory = Unit {0}
