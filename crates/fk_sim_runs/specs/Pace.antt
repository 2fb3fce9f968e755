-- The pace: how soon a processor that could act is in a round.
use Rattle.std.specs.Prelude.{◌≡◌, ◌≢◌, ℕ, ◌+◌, ◌^◌, ◌<◌, ◌≤◌, List, [], ◌∷◌, ◌++◌, length, take}
use Rattle.std.specs.Prelude.{Some, true, slice_get, ◌⊎◌}
use Rattle.fk_num.specs.Word.{Memory}
use Rattle.fk_meaning.specs.Processor.{Setting}
use Rattle.fk_meaning.specs.Round.{State, Round}
use Rattle.fk_meaning.specs.Schedule.{Schedule, run, IsIn, CouldAct, KeepsPace}
use Rattle.fk_core.specs.declared.op.CoreOp.{CoreOp}
use Rattle.fk_core.specs.Next.{Position, next}
use Rattle.fk_sim_nodes.specs.Phase.{Phase, Coming, Leaving, AllMove, Settled, IsDue}
use Rattle.fk_sim_match.specs.Stage.{Ending, Commits, Unites, Stage, Ended, Acts, Meets, distance}
use Rattle.fk_sim_match.specs.Stage.{counts_for, AllNear, kept}
use Rattle.fk_sim_match.specs.Plan.{Plan, IsInside, phases}
use Rattle.fk_sim_block.specs.Joint.{lead}
use Rattle.fk_sim_block.specs.Start.{most_united}
use Rattle.fk_sim_rounds.specs.Comes.{most_between, most_to_word}

-- ---- stages from which a hart commits in time

-- The most cycles from leaving the arrival word to the commit: leaving is the commit, or the common
-- commit comes after it.
abbrev pub behind_leaving : Ending → ℕ
behind_leaving Commits = 0
behind_leaving Unites = most_united

abbrev pub IsInTime : Stage → Type 0
IsInTime Ended = Unit {0}
IsInTime (Acts d inner) = d ≤ most_between
IsInTime (Meets e w (Coming d)) = d ≤ most_to_word e
IsInTime (Meets e w (Leaving d)) = d ≤ lead
IsInTime (Meets e w f) = Unit {0}

abbrev pub AreInTime : List Stage → Type 0
AreInTime [] = Unit {0}
AreInTime (s ∷ stages) = IsInTime s × AreInTime stages

-- ---- one cycle

-- The view of harts before a cycle: the plan that binds them, their stages, the control words, and
-- the number of cycles finished before.
pub record Sight : Type 0 where
  pub plan : Plan
  pub stages : List Stage
  pub control : Memory
  pub finished : ℕ

-- A hart of a node is in a phase of those who meet at a word.
pub record StandsAtWord (v : Sight) (h : ℕ) (e : Ending) (g w : ℕ) (f : Phase) : Type 0 where
  pub here : slice_get v.plan.nodes h ≡ Some g
  pub at : slice_get v.stages h ≡ Some (Meets e w f)
  pub member : v.plan.member w h ≡ true
  pub inside : IsInside f

-- In a cycle the hart goes on meeting at that word, and all who meet there have moved.
pub record MovesOn (v v' : Sight) (h : ℕ) (e : Ending) (g w : ℕ) : Type 0 where
  pub phase : Phase
  pub stands : StandsAtWord v' h e g w phase
  pub settled : Settled v.finished (v.plan.size w) (v.control w) (phases v.plan g w (kept v.stages))
  pub moves : AllMove v.finished (v.plan.size w) lead (phases v.plan g w (kept v.stages))
      (v.control w) (phases v'.plan g w (kept v'.stages)) (v'.control w)

-- The hart has met those with whom it unites, and is near their common commit.
pub record HasUnited (v' : Sight) (h : ℕ) : Type 0 where
  pub left : ℕ
  pub inner : ℕ
  pub at : slice_get v'.stages h ≡ Some (Acts left inner)
  pub few : left < most_united

-- From one view to the next each hart at a distance is one cycle nearer, and each that meets others
-- and doesn't leave goes on meeting them.
pub record Turns (v v' : Sight) : Type 0 where
  pub few : length v.stages < 2 ^ 31
  pub next : v'.finished ≡ v.finished + 1
  pub near : AllNear v.stages v'.stages
  pub meet : (h : ℕ) (e : Ending) (g w : ℕ) (f : Phase) → StandsAtWord v h e g w f → f ≢ Leaving 0
      → MovesOn v v' h e g w
  pub unite : (h w : ℕ) → slice_get v.stages h ≡ Some (Meets Unites w (Leaving 0)) → HasUnited v' h

-- ---- a hart that is to commit within some number of cycles

-- The hart is at a distance from its commit.
pub record IsNear (v : Sight) (h cycles : ℕ) : Type 0 where
  pub stage : Stage
  pub at : slice_get v.stages h ≡ Some stage
  pub left : ℕ
  pub is : distance stage ≡ Some left
  pub in_time : left ≤ cycles

-- All whom the hart meets have entered, and have time to leave.
pub record MeetsAll (v : Sight) (h cycles : ℕ) : Type 0 where
  pub ending : Ending
  pub node : ℕ
  pub word : ℕ
  pub phase : Phase
  pub stands : StandsAtWord v h ending node word phase
  pub steps : ℕ
  pub due : IsDue lead steps v.finished (phases v.plan node word (kept v.stages))
  pub in_time : steps + behind_leaving ending ≤ cycles

abbrev pub ActsWithin : Sight → (h cycles : ℕ) → Type 0
ActsWithin v h cycles = IsNear v h cycles ⊎ MeetsAll v h cycles

-- ---- rounds

-- The hart is in a round of the schedule, at this place or later.
pub record IsInSince (h from : ℕ) (schedule : Schedule) : Type 0 where
  pub place : ℕ
  pub since : from ≤ place
  pub round : Round
  pub at : slice_get schedule place ≡ Some round
  pub within : IsIn h round

-- The hart is to commit within the cycles that, with the rounds since `from`, make 254.
pub record IsToCommit (v : Sight) (h from : ℕ) (schedule : Schedule) : Type 0 where
  pub cycles : ℕ
  pub due : length schedule + cycles ≡ from + most_between
  pub acts : ActsWithin v h cycles

module _ (core : List CoreOp) (setting : Setting) (first : State Position) where
  -- The processor could act before each round from this one on, and after the last.
  abbrev pub CouldActSince : (h from : ℕ) → Schedule → Type 0
  CouldActSince h from schedule =
      (i : ℕ) → from ≤ i → i ≤ length schedule
      → CouldAct (next core) setting h (run (next core) setting (take i schedule) first)

  -- A processor that could act so is in one of these rounds, or is to commit in time.
  abbrev pub AreWaiting : Schedule → Sight → Type 0
  AreWaiting schedule v =
      (h from : ℕ) → from ≤ length schedule → CouldActSince h from schedule
      → IsInSince h from schedule ⊎ IsToCommit v h from schedule

-- One round more keeps `AreWaiting`, if each processor that could act after it is to commit within
-- 254 cycles.
abbrev pub PacesGoOn : Type 0
PacesGoOn =
    (core : List CoreOp) (setting : Setting) (first : State Position)
    (schedule : Schedule) (v v' : Sight)
    → AreWaiting core setting first schedule v → Turns v v'
    → ((h : ℕ) → CouldAct (next core) setting h (run (next core) setting (schedule
    ++ counts_for v.stages ∷ []) first) → ActsWithin v' h most_between)
    → AreWaiting core setting first (schedule ++ counts_for v.stages ∷ []) v'

-- The pace of 256 rounds is kept with one round more, whatever that round is.
abbrev pub PacesAreKept : Type 0
PacesAreKept =
    (core : List CoreOp) (setting : Setting) (first : State Position) (schedule : Schedule)
    (v : Sight) (round : Round)
    → KeepsPace (next core) setting schedule first → AreWaiting core setting first schedule v
    → KeepsPace (next core) setting (schedule ++ round ∷ []) first
