-- Rounds with counts, divided into rounds in which each processor does at most one operation.
use Rattle.std.specs.Prelude.{◌≡◌, ℕ, zero, suc, true, [], ◌∷◌, ◌++◌, map, Option, None}
use Rattle.fk_meaning.specs.Processor.{Setting}
use Rattle.fk_meaning.specs.Round.{Step, State, Round, asking, result, is_allowed}
use Rattle.fk_meaning.specs.Schedule.{Schedule, run, ArePossible}
use Rattle.fk_lockstep_tree.specs.Rounds.{IsSingle}
use Rattle.fk_lockstep_tree.specs.Runs.{AreSingle}

-- who has more than one operation to do begins with one of them, and does the others later
abbrev pub first_of : (count : ℕ) → ℕ
first_of zero = 0
first_of (suc zero) = 0
first_of (suc (suc c)) = 1

abbrev pub others_of : (count : ℕ) → ℕ
others_of zero = 0
others_of (suc zero) = 1
others_of (suc (suc c)) = suc c

abbrev pub firsts : Round → Round
firsts round = map first_of round

abbrev pub others : Round → Round
others round = map others_of round

-- first operations, so many times, and what is left of a round after them
abbrev pub earlier : (times : ℕ) → Round → Schedule
earlier zero round = []
earlier (suc n) round = firsts round ∷ earlier n (others round)

abbrev pub last : (times : ℕ) → Round → Round
last zero round = round
last (suc n) round = last n (others round)

-- a count is at most 255, so at most 254 operations come before the last one
abbrev pub earlier_in : Round → Schedule
earlier_in round = earlier 254 round

abbrev pub last_in : Round → Round
last_in round = last 254 round

abbrev pub singles : Schedule → Schedule
singles [] = []
singles (round ∷ schedule) = earlier_in round ++ last_in round ∷ singles schedule

module _ {W : Type 0} (next : W → Option (Step W)) (set : Setting) (round : Round)
    (s : State W) where
  abbrev pub before_last : State W
  before_last = run next set (earlier_in round) s

  -- the earlier operations of a round are possible rounds of single operations, and change nothing
  -- that is shared. The last ones are an allowed round, with the round's requests and result
  pub record IsSplit : Type 0 where
    pub possible : ArePossible next set (earlier_in round) s
    pub single : AreSingle (earlier_in round)
    pub keeps : before_last ≡ record s { runners = before_last.runners }
    pub last_single : IsSingle (last_in round)
    pub allowed : is_allowed next set (last_in round) before_last ≡ true
    pub asks : asking next set (last_in round) before_last.runners
        ≡ asking next set round s.runners
    pub same : result next set (last_in round) before_last ≡ result next set round s

abbrev pub RoundsAreSplit : (W : Type 0) → Type 0
RoundsAreSplit W =
    (next : W → Option (Step W)) (set : Setting) (round : Round) (s : State W)
    → s.fault ≡ None → is_allowed next set round s ≡ true → IsSplit next set round s

module _ {W : Type 0} (next : W → Option (Step W)) (set : Setting) (schedule : Schedule)
    (s : State W) where
  pub record IsSameBySingles : Type 0 where
    pub possible : ArePossible next set (singles schedule) s
    pub single : AreSingle (singles schedule)
    pub same : run next set (singles schedule) s ≡ run next set schedule s

abbrev pub SchedulesAreSingle : (W : Type 0) → Type 0
SchedulesAreSingle W =
    (next : W → Option (Step W)) (set : Setting) (schedule : Schedule) (s : State W)
    → ArePossible next set schedule s → (run next set schedule s).fault ≡ None
    → IsSameBySingles next set schedule s
