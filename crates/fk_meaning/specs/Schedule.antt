-- Schedules, runs and their status.
use Rattle.std.specs.Prelude.{◌≡◌, ℕ, zero, suc, ◌+◌, ◌<◌, ◌≤◌, List, [], ◌∷◌, Bool, true, ◌&&◌}
use Rattle.std.specs.Prelude.{take, length, slice_get, slice_index, Option, Some, None, is_none}
use Rattle.std.specs.Prelude.{if◌then◌else◌, ◌⊎◌}
use Rattle.fk_num.specs.Word.{Memory}
use Rattle.fk_tree.specs.Tree.{root}
use Rattle.fk_meaning_store.specs.Store.{opening_store}
use Rattle.fk_meaning.specs.Processor.{Level, Call, Processor, Setting, setting_of, group_space}
use Rattle.fk_meaning.specs.Round.{Step, Runner, Fault, State, Round, result, is_allowed}
use Rattle.fk_meaning.specs.Round.{is_possible, IsStopped}

-- at the beginning `@` is 0, `$` is the processor's number, and the whole group space is available
-- for a `start`
abbrev pub first_level : Setting → (h : ℕ) → Level
first_level set h = record { number = 0; rank = h; size = set.processors; space = group_space set }

abbrev pub first_call : Call
first_call = record { values = []; privates = λ i. 0; frames = λ i. 0 }

-- every processor has its own private variables of file scope, with the same initial values
abbrev pub first_processor : Setting → (firsts : Memory) → (h : ℕ) → Processor
first_processor set firsts h = record {
  number = h;
  level = first_level set h;
  outer = [];
  call = first_call;
  callers = [];
  own = firsts;
  top = 0;
}

-- `count` processors from number h on, each with the same work left
abbrev pub beginners : {W : Type 0} → Setting → (firsts : Memory) → (left : W) → (h count : ℕ)
    → List (Runner W)
beginners set firsts left h zero = []
beginners set firsts left h (suc p) =
    record { left = left; has = first_processor set firsts h } ∷ beginners set firsts left (suc h) p

-- the state before the first round, of a program with these globals and initial values. Every
-- processor has the whole program left
abbrev pub opening : {W : Type 0} → (processors : ℕ) → (globals input : List ℕ) → (firsts : Memory)
    → (left : W) → State W
opening processors globals input firsts left =
    record {
      store = opening_store globals input;
      tree = root processors;
      runners = beginners (setting_of processors globals input) firsts left 0 processors;
      fault = None;
    }

abbrev pub Schedule : Type 0
Schedule = List Round

pub data SourceStand : Type 0 where
  SourceRunning : SourceStand
  SourceFinished : SourceStand
  SourceFaulted : (fault : Fault) → SourceStand

abbrev pub IsIn : (h : ℕ) → Round → Type 0
IsIn h round = 0 < slice_index round h

module _ {W : Type 0} (next : W → Option (Step W)) (setting : Setting) where
  -- the state after a schedule
  abbrev pub run : Schedule → State W → State W
  run [] s = s
  run (round ∷ schedule) s = run schedule (result next setting round s)

  -- each round is possible in the state before it, or is the last one and stopped
  abbrev pub ArePossible : Schedule → State W → Type 0
  ArePossible [] s = Unit {0}
  ArePossible (round ∷ []) s = (is_possible next setting round s ≡ true)
      ⊎ IsStopped next setting round s
  ArePossible (round ∷ other ∷ schedule) s =
      (is_possible next setting round s ≡ true)
      × ArePossible (other ∷ schedule) (result next setting round s)

  -- some allowed round has processor h in it
  pub record CouldAct (h : ℕ) (s : State W) : Type 0 where
    pub round : Round
    pub allowed : is_allowed next setting round s ≡ true
    pub within : IsIn h round

  -- a processor that could act before each of 256 consecutive rounds, from round t on, is in one of
  -- them
  abbrev pub KeepsPace : Schedule → State W → Type 0
  KeepsPace schedule s =
      (h t : ℕ) → t + 256 ≤ length schedule
      → ((i : ℕ) → i < 256 → CouldAct h (run (take (t + i) schedule) s))
      → (i : ℕ) × (i < 256) × (round : Round)
      × (slice_get schedule (t + i) ≡ Some round) × IsIn h round

  pub record IsLawful (schedule : Schedule) (s : State W) : Type 0 where
    pub possible : ArePossible schedule s
    pub pace : KeepsPace schedule s

  -- a run is finished when no processor has anything left
  abbrev pub all_done : List (Runner W) → Bool
  all_done [] = true
  all_done (r ∷ rs) = is_none (next r.left) && all_done rs

  abbrev pub stand_by : Option Fault → List (Runner W) → SourceStand
  stand_by None rs = if all_done rs then SourceFinished else SourceRunning
  stand_by (Some fault) rs = SourceFaulted fault

  abbrev pub stand_of : State W → SourceStand
  stand_of s = stand_by s.fault s.runners
