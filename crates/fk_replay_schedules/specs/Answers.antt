-- Where a schedule isn't lawful. Rounds are counted from 1.
use Rattle.std.specs.Prelude.{◌≡◌, ◌⊎◌, ℕ, suc, ◌+◌, ◌<◌, ◌≤◌, true, take, length}
use Rattle.std.specs.Prelude.{slice_get, Option, Some}
use Rattle.fk_meaning.specs.Processor.{Setting}
use Rattle.fk_meaning.specs.Round.{Step, State, Round, is_possible, IsStopped}
use Rattle.fk_meaning.specs.Schedule.{Schedule, CouldAct, IsIn, run}

module _ {W : Type 0} (next : W → Option (Step W)) (setting : Setting)
    (schedule : Schedule) (opening : State W) where
  -- the state after the first n rounds
  abbrev pub after : ℕ → State W
  after n = run next setting (take n schedule) opening

  -- the round after n others is possible there, or is the last one and stopped
  abbrev pub IsGoodBehind : (n : ℕ) → Round → Type 0
  IsGoodBehind n round =
      (is_possible next setting round (after n) ≡ true)
      ⊎ ((suc n ≡ length schedule) × IsStopped next setting round (after n))

  -- a round is bad if it is neither
  pub record IsBad (r : ℕ) : Type 0 where
    pub behind : ℕ
    pub number : r ≡ suc behind
    pub round : Round
    pub is : slice_get schedule behind ≡ Some round
    pub bad : IsGoodBehind behind round → ⊥

  -- a round is late for a processor that could act before each of the 256 rounds that end with it,
  -- and is absent from all of them
  pub record IsLate (r h : ℕ) : Type 0 where
    pub behind : ℕ
    pub number : r ≡ behind + 256
    pub there : r ≤ length schedule
    pub able : (i : ℕ) → i < 256 → CouldAct next setting h (after (behind + i))
    pub absent : (i : ℕ) → i < 256 → (round : Round)
        → slice_get schedule (behind + i) ≡ Some round → IsIn h round → ⊥

  -- the first bad round, if no round before it is late
  pub record IsNotPossible (r : ℕ) : Type 0 where
    pub bad : IsBad r
    pub first : (q : ℕ) → q < r → IsBad q → ⊥
    pub on_time : (q h : ℕ) → q < r → IsLate q h → ⊥

  -- the first late round, and the least processor for which it is late, if no round up to it is bad
  pub record IsPassedOver (r h : ℕ) : Type 0 where
    pub late : IsLate r h
    pub least : (g : ℕ) → g < h → IsLate r g → ⊥
    pub first : (q g : ℕ) → q < r → IsLate q g → ⊥
    pub good : (q : ℕ) → q ≤ r → IsBad q → ⊥
