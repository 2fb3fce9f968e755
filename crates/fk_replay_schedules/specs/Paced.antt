-- What is known of a run after so many rounds of its schedule, and of those who could act.
use Rattle.std.specs.Prelude.{◌≡◌, ℕ, suc, ◌<◌, ◌≤◌, true, Option, Some, None, slice_get}
use Rattle.fk_meaning.specs.Processor.{Setting}
use Rattle.fk_meaning.specs.Round.{Step, State, Round, is_possible}
use Rattle.fk_meaning.specs.Schedule.{Schedule, CouldAct, IsIn}
use Rattle.fk_replay_schedules.specs.Answers as answers
use Rattle.fk_replay_schedules.specs.Answers.{IsLate}

-- for each processor the round since which it could act and is absent, if there is one. Rounds are
-- counted from 1
abbrev pub Since : Type 0
Since = (processor : ℕ) → Option ℕ

-- those who are in a round are no longer absent
pub record Leaves (round : Round) (old new : Since) : Type 0 where
  pub gone : (h : ℕ) → IsIn h round → new h ≡ None
  pub kept : (h : ℕ) → (IsIn h round → ⊥) → new h ≡ old h

-- exactly those who could act in a state are told. Whoever is new could act since this round
pub record Begins {W : Type 0} (next : W → Option (Step W)) (setting : Setting) (s : State W)
    (round : ℕ) (old new : Since) : Type 0 where
  pub kept : (h f : ℕ) → old h ≡ Some f → new h ≡ Some f
  pub begun : (h f : ℕ) → old h ≡ None → new h ≡ Some f → f ≡ round
  pub could : (h f : ℕ) → new h ≡ Some f → CouldAct next setting h s
  pub cannot : (h : ℕ) → new h ≡ None → CouldAct next setting h s → ⊥

module _ {W : Type 0} (next : W → Option (Step W)) (setting : Setting)
    (schedule : Schedule) (opening : State W) where
  abbrev after : ℕ → State W
  after n = answers.after next setting schedule opening n

  -- a processor isn't in the round behind n others
  abbrev pub IsAbsent : (h n : ℕ) → Type 0
  IsAbsent h n = (round : Round) → slice_get schedule n ≡ Some round → IsIn h round → ⊥

  -- after n rounds: since the state after `first` rounds a processor could act and is absent, and
  -- not for longer
  pub record HasWaited (h first n : ℕ) : Type 0 where
    pub begun : first ≤ n
    pub able : (i : ℕ) → first ≤ i → i ≤ n → CouldAct next setting h (after i)
    pub absent : (i : ℕ) → first ≤ i → i < n → IsAbsent h i
    pub longest : (i : ℕ) → suc i ≡ first → CouldAct next setting h (after i) → IsAbsent h i → ⊥

  -- it is known since which round each processor has waited. Whoever hasn't couldn't act
  pub record IsPaced (since : Since) (n : ℕ) : Type 0 where
    pub waited : (h f : ℕ) → since h ≡ Some f
        → (first : ℕ) × (f ≡ suc first) × HasWaited h first n
    pub cannot : (h : ℕ) → since h ≡ None → CouldAct next setting h (after n) → ⊥

  -- the first n rounds are possible, and late for nobody
  pub record ArePassed (n : ℕ) : Type 0 where
    pub possible : (m : ℕ) (round : Round) → m < n → slice_get schedule m ≡ Some round
        → is_possible next setting round (after m) ≡ true
    pub on_time : (q h : ℕ) → q ≤ n → IsLate next setting schedule opening q h → ⊥
