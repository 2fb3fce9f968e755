-- Fair use of a lock in a run of a program that begins with the lock's functions.
use Rattle.std.specs.Prelude.{◌≡◌, ◌≢◌, ℕ, suc, ◌+◌, ◌<◌, ◌≤◌, ◌⊎◌, List, true, Some, None}
use Rattle.std.specs.Prelude.{slice_get, take}
use Rattle.fk_syntax.specs.Program.{FunctionTree, ProgramTree}
use Rattle.fk_meaning_operation.specs.declared.operation.Operation.TheVariants.{Enter}
use Rattle.fk_meaning_store.specs.Store.{address_of, shared_words}
use Rattle.fk_meaning_forms.specs.Code.{size}
use Rattle.fk_meaning_forms.specs.Tables.{Tables}
use Rattle.fk_meaning_forms.specs.Program.{binding_of, bodies_of, code_of, functions_of}
use Rattle.fk_meaning.specs.Left.{settled}
use Rattle.fk_meaning.specs.Next.{Work}
use Rattle.fk_meaning.specs.Processor.{Setting, setting_of, last, values}
use Rattle.fk_meaning.specs.Program.{next_in, program_opening}
use Rattle.fk_meaning.specs.Round.{Step, State, Fault, Round, Acting}
use Rattle.fk_meaning.specs.Schedule.{Schedule, run, ArePossible}
use Rattle.fk_meaning.specs.Touch.{touch}
use Rattle.fk_core_flat.specs.Fitting.{ProgramFits}
use Rattle.fk_tickets.specs.Lock.{opening}
use Rattle.fk_locks_runs.specs.Locks.{AreWords, Excludes, asked}
use Rattle.fk_locks_calls.specs.Code.{HasLock}

module _ (tables : Tables) (program : ProgramTree) (lock : HasLock tables program) where
  abbrev pub sites_of_lock : ℕ
  sites_of_lock = let all = functions_of program.items in
      size (code_of tables all lock.takes) + size (code_of tables all lock.gives)

  -- The operation is one of the two functions, called with the address of word x.
  pub record IsOfCall (x : ℕ) (a : Acting Work) : Type 0 where
    pub step : Step Work
    pub due : a.due ≡ Some step
    pub within : step.site < sites_of_lock
    pub called : a.runner.has.call.privates 0 ≡ address_of x

  -- A processor calls a function with the address of word x.
  pub record Calls (f : FunctionTree) (x : ℕ) (a : Acting Work) : Type 0 where
    pub step : Step Work
    pub due : a.due ≡ Some step
    pub enters : step.operation ≡ Enter 1
    pub given : last (values a.runner.has) ≡ address_of x
    pub goes : (step.rest true).left ≡ settled (bodies_of tables program (binding_of tables f))

  module _ (setting : Setting) (schedule : Schedule) (s : State Work) where
    -- What processor h asks for in round t.
    pub record AsksAt (t h : ℕ) (a : Acting Work) : Type 0 where
      pub round : Round
      pub is_round : slice_get schedule t ≡ Some round
      pub is_its : slice_get
          (asked (next_in tables program) setting round
          (run (next_in tables program) setting (take t schedule) s)) h ≡ Some a

    -- Round t has no fault of processor h.
    abbrev pub IsServedAt : (t h : ℕ) → Type 0
    IsServedAt t h = (fault : Fault)
        → (run (next_in tables program) setting (take (suc t) schedule) s).fault ≡ Some fault
        → h ≢ fault.processor

    -- In round t a call of a function with the address of word x begins.
    abbrev pub BeginsAt : FunctionTree → (x t h : ℕ) → Type 0
    BeginsAt f x t h = (a : Acting Work) × AsksAt t h a × Calls f x a × IsServedAt t h

    -- Both words begin as 0, and are words of shared data. Requests on them are only those of the two
    -- functions called with the address of the first, and all of these are served. Each processor
    -- begins calls of them in turn: a take only if a give came after each earlier take, and a give
    -- only if none came after some earlier take. A call begins after the one before has returned,
    -- since the two functions call nothing.
    pub record UsesCallsFairly (x : ℕ) : Type 0 where
      pub first : AreWords x opening s
      pub room : suc x < shared_words
      pub alone : (t h : ℕ) (a : Acting Work) → AsksAt t h a
          → (touch x a ≢ None) ⊎ (touch (suc x) a ≢ None) → IsOfCall x a
      pub take : (t u h : ℕ) → t < u → BeginsAt lock.takes x t h → BeginsAt lock.takes x u h
          → (v : ℕ) × (t < v) × (v < u) × BeginsAt lock.gives x v h
      pub give : (u h : ℕ) → BeginsAt lock.gives x u h
          → (t : ℕ) × (t < u) × BeginsAt lock.takes x t h
          × ((v : ℕ) → t < v → v < u → ¬ BeginsAt lock.gives x v h)

-- In each run of the program by possible rounds that uses a lock fairly, at most one processor is
-- inside at each moment, and of two draws the one that was served first enters first, where both
-- enter. The initial values of variables may be any ones.
abbrev pub LocksExclude : (tables : Tables) (program : ProgramTree) → HasLock tables program → Type 0
LocksExclude tables program lock =
    (schedule : Schedule) (words firsts input : List ℕ) (processors x : ℕ) → processors ≤ 1024
    → let next = next_in tables program in
    let setting = setting_of processors words input in
    let s = program_opening tables program words firsts input processors in
    ArePossible next setting schedule s
    → UsesCallsFairly tables program lock setting schedule s x → Excludes next setting x schedule s

abbrev pub ProgramsExclude : Type 0
ProgramsExclude =
    (tables : Tables) (program : ProgramTree) (lock : HasLock tables program)
    → ProgramFits tables program → LocksExclude tables program lock
