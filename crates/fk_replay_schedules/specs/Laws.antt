-- The schedules that are lawful are those without a bad and without a late round.
use Rattle.std.specs.Prelude.{◌≡◌, ℕ, suc, ◌+◌, ◌↔◌, true, Option, Some, None}
use Rattle.std.specs.Prelude.{length, take, slice_get, slice_index}
use Rattle.fk_meaning.specs.Processor.{Setting}
use Rattle.fk_meaning.specs.Round.{Step, State, Round, result, is_possible}
use Rattle.fk_meaning.specs.Schedule.{Schedule, IsLawful, ArePossible}
use Rattle.fk_replay_schedules.specs.Answers.{IsBad, IsGoodBehind, IsLate, after}
use Rattle.fk_replay_schedules.specs.Paced.{Since, IsPaced, ArePassed, Leaves, Begins}

-- a lawful schedule has no bad round and no late one
pub record HasNoFault {W : Type 0} (next : W → Option (Step W)) (setting : Setting)
    (schedule : Schedule) (opening : State W) : Type 0 where
  pub none_bad : (r : ℕ) → IsBad next setting schedule opening r → ⊥
  pub none_late : (r h : ℕ) → IsLate next setting schedule opening r h → ⊥

abbrev pub LawfulSchedulesHaveNoFault : Type 0 → Type 0
LawfulSchedulesHaveNoFault W =
    (next : W → Option (Step W)) (setting : Setting) (schedule : Schedule) (opening : State W)
    → IsLawful next setting schedule opening → HasNoFault next setting schedule opening

-- a schedule is lawful if each of its rounds is possible, or is the last one and stopped, and none
-- is late
abbrev pub GoodSchedulesAreLawful : Type 0 → Type 0
GoodSchedulesAreLawful W =
    (next : W → Option (Step W)) (setting : Setting) (schedule : Schedule) (opening : State W)
    → ((n : ℕ) (round : Round) → slice_get schedule n ≡ Some round
    → IsGoodBehind next setting schedule opening n round)
    → ((r h : ℕ) → IsLate next setting schedule opening r h → ⊥)
    → IsLawful next setting schedule opening

-- After a round those who are told since 255 rounds are those for whom it is late
abbrev pub AbsencesTellLateRounds : Type 0 → Type 0
AbsencesTellLateRounds W =
    (next : W → Option (Step W)) (setting : Setting) (schedule : Schedule) (opening : State W)
    → (n : ℕ) (round : Round) (old new : Since) → slice_get schedule n ≡ Some round
    → IsPaced next setting schedule opening old n → ArePassed next setting schedule opening n
    → Leaves round old new → (h : ℕ)
    → ((first : ℕ) × (first + 255 ≡ suc n) × (new h ≡ Some first))
    ↔ IsLate next setting schedule opening (suc n) h

-- what is known of absences is known after one more round, which is late for nobody
abbrev pub AbsencesAreKept : Type 0 → Type 0
AbsencesAreKept W =
    (next : W → Option (Step W)) (setting : Setting) (schedule : Schedule) (opening : State W)
    → (n : ℕ) (round : Round) (old left new : Since) → slice_get schedule n ≡ Some round
    → IsPaced next setting schedule opening old n → Leaves round old left
    → Begins next setting (after next setting schedule opening (suc n)) (suc (suc n)) left new
    → IsPaced next setting schedule opening new (suc n)

-- a round in which nobody acts is possible, and changes nothing
abbrev pub EmptyRoundsChangeNothing : Type 0 → Type 0
EmptyRoundsChangeNothing W =
    (next : W → Option (Step W)) (setting : Setting) (round : Round) (s : State W)
    → s.fault ≡ None → length round ≡ length s.runners → ((h : ℕ) → slice_index round h ≡ 0)
    → (is_possible next setting round s ≡ true) × (result next setting round s ≡ s)

-- the first rounds of a schedule are possible if each of them is
abbrev pub FirstRoundsArePossible : Type 0 → Type 0
FirstRoundsArePossible W =
    (next : W → Option (Step W)) (setting : Setting) (schedule : Schedule) (opening : State W)
    → (n : ℕ) → ArePassed next setting schedule opening n
    → ArePossible next setting (take n schedule) opening
