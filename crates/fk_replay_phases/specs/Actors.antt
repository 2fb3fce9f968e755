-- Processors in a round, before the steps of the tree.
use Rattle.std.specs.Prelude.{◌≡◌, ◌≢◌, ℕ, ◌<◌, ◌≤◌, ◌^◌, Bool, true, List, Option, Some, None, option_map, map}
use Rattle.std.specs.Prelude.{length, slice_get, slice_index}
use Rattle.fk_meaning_operation.specs.Kinds.{class_of}
use Rattle.fk_meaning_operation.specs.declared.kinds.Class.TheVariants.{Local, Tree}
use Rattle.fk_meaning_store.specs.Store.{Store}
use Rattle.fk_meaning_state.specs.View.{processor_of}
use Rattle.fk_meaning_operation.specs.declared.operation.SplitKind.{SplitKind}
use Rattle.fk_meaning_operation.specs.declared.operation.Operation.TheVariants.{Split}
use Rattle.fk_meaning.specs.Processor.{Setting, values}
use Rattle.fk_meaning.specs.Group.{has_room, parts}
use Rattle.fk_meaning.specs.Round as rounds
use Rattle.fk_meaning.specs.Round.{Step, Acting, Round, after_one, after_locals, are_local}
use Rattle.fk_meaning.specs.Round.{is_local_next, may_act, all_may_act, local_phase, asking}
use Rattle.fk_meaning.specs.Round.{Passes, Breaks, request_phase, all_requests}
use Rattle.fk_core.specs.declared.op.CoreOp.{CoreOp}
use Rattle.fk_core.specs.Next.{Position, next}
use Rattle.fk_replay_steps.specs.Steps.{step_at, callers_of, runner_of}
use Rattle.fk_replay_rounds.specs.declared.mode.Mode.{Mode}
use Rattle.fk_replay_steps.specs.declared.runner.Runner.{Runner}
use Rattle.fk_replay_phases.specs.Present.{present, numbers_of}
use Rattle.fk_replay_steps.specs.Served.{CanAsk}
use Rattle.fk_replay_steps.specs.declared.list.Due.{Due}
use Rattle.fk_replay_phases.specs.declared.acting.Acting as acts
use Rattle.fk_replay_phases.specs.declared.phases.Fault as code
use Rattle.fk_replay_phases.specs.declared.actor.Actor.{Actor}

module _ (core : List CoreOp) where
  -- the operation that a processor has taken and not done yet
  abbrev pub due_of : Actor → Option (Step Position)
  due_of a = option_map (step_at core (callers_of a.runner)) a.taken

  abbrev pub acting_of : Actor → Acting Position
  acting_of a = record { due = due_of a; runner = runner_of a.runner }

  -- an operation that was taken is in the list, and isn't local
  pub record IsDue (a : Actor) : Type 0 where
    pub within : (due : Due) → a.taken ≡ Some due → due.at < length core
    pub class : (due : Due) → a.taken ≡ Some due → class_of due.operation ≢ Local

  -- the request of an operation that was taken can be served
  pub record CanBeAsked (a : Actor) : Type 0 where
    pub due : IsDue a
    pub known : (due : Due) → a.taken ≡ Some due
        → CanAsk due.operation (processor_of a.runner.processor)

  abbrev pub actings_of : List Actor → List (Acting Position)
  actings_of actors = map acting_of actors

abbrev pub runners_of : List Actor → List (rounds.Runner Position)
runners_of actors = map (λ a. runner_of a.runner) actors

abbrev pub modes_of : List Actor → List Mode
modes_of actors = map (λ a. a.mode) actors

module _ (core : List CoreOp) (set : Setting) where
  -- the next operation of a processor is done if it is local
  pub record HasDoneOne (old new : Runner) (did : Bool) : Type 0 where
    pub whether : did ≡ is_local_next (next core) set (next core (runner_of old).left)
    pub done : did ≡ true → runner_of new ≡ after_one (next core) set (runner_of old)

  -- so many operations of a processor are done if all of them are local
  pub record HasDoneLocals (count : ℕ) (old new : Runner) (did : Bool) : Type 0 where
    pub whether : did ≡ are_local (next core) set count (runner_of old)
    pub done : did ≡ true → runner_of new ≡ after_locals (next core) set count (runner_of old)

  -- a processor with a count, before the requests
  abbrev pub asked : (count : ℕ) → rounds.Runner Position → Acting Position
  asked count r = let a = rounds.begin (next core) set count r in
      local_phase (next core) set a a.due

  -- a processor has begun a round with a count if it can
  pub record HasBegun (count : ℕ) (old new : Actor) (can : Bool) : Type 0 where
    pub whether : can ≡ may_act (next core) set count (runner_of old.runner)
    pub begun : can ≡ true → acting_of core new ≡ asked count (runner_of old.runner)
    pub mode : can ≡ true → new.mode ≡ old.mode
    pub asks : can ≡ true → CanBeAsked core new

-- those who are in a round; the others have taken nothing
pub record AreInRound (acting : List acts.Acting) (actors : List Actor) : Type 0 where
  pub round : Round
  pub many : length round ≡ length actors
  pub numbers : numbers_of acting ≡ present 0 round
  pub others : (h : ℕ) (a : Actor) → slice_get actors h ≡ Some a → slice_index round h ≡ 0
      → a.taken ≡ None

pub record CanAllBeAsked (core : List CoreOp) (actors : List Actor) : Type 0 where
  pub each : (h : ℕ) (a : Actor) → slice_get actors h ≡ Some a → CanBeAsked core a

module _ (core : List CoreOp) (set : Setting) where
  -- a processor that has begun a round with a count
  pub record BeganAs (count : ℕ) (old new : Actor) : Type 0 where
    pub may : may_act (next core) set count (runner_of old.runner) ≡ true
    pub begun : acting_of core new ≡ asked core set count (runner_of old.runner)
    pub mode : new.mode ≡ old.mode

  -- all processors of a round have begun it if all of them can
  pub record HaveBegun (round : Round) (old new : List Actor) (can : Bool) : Type 0 where
    pub whether : can ≡ all_may_act (next core) set round (runners_of old)
    pub begun : can ≡ true → actings_of core new ≡ asking (next core) set round (runners_of old)
    pub modes : can ≡ true → modes_of new ≡ modes_of old
    pub asks : can ≡ true → CanAllBeAsked core new

-- nobody has taken an operation
pub record HaveNone (actors : List Actor) : Type 0 where
  pub none : (h : ℕ) (a : Actor) → slice_get actors h ≡ Some a → a.taken ≡ None

-- ---- requests

module _ (core : List CoreOp) where
  -- what is still taken is a step of the tree that finds the words that it needs
  pub record IsReady (a : Actor) : Type 0 where
    pub within : (due : Due) → a.taken ≡ Some due → due.at < length core
    pub class : (due : Due) → a.taken ≡ Some due → class_of due.operation ≡ Tree
    pub room : (due : Due) → a.taken ≡ Some due
        → has_room due.operation (processor_of a.runner.processor) ≡ true
    pub few : (due : Due) (by : SplitKind) → a.taken ≡ Some due → due.operation ≡ Split by
        → parts by (values (processor_of a.runner.processor)) ≤ 2 ^ 18

  -- a processor passes the phase of requests
  pub record HasPassed (old new : Store) (before after : Actor) : Type 0 where
    pub passes : request_phase old (acting_of core before) (due_of core before)
        ≡ Passes new (acting_of core after)
    pub ready : IsReady after
    pub mode : after.mode ≡ before.mode

  -- a processor faults at a site
  pub record HasBroken (old new : Store) (before after : Actor) (site : ℕ) : Type 0 where
    pub breaks : request_phase old (acting_of core before) (due_of core before) ≡ Breaks site
    pub store : new ≡ old
    pub actor : acting_of core after ≡ acting_of core before
    pub mode : after.mode ≡ before.mode

  abbrev pub HasAsked : (old new : Store) (before after : Actor) → (site : Option ℕ) → Type 0
  HasAsked old new before after None = HasPassed old new before after
  HasAsked old new before after (Some site) = HasBroken old new before after site

  pub record AreReady (actors : List Actor) : Type 0 where
    pub each : (h : ℕ) (a : Actor) → slice_get actors h ≡ Some a → IsReady a

  abbrev pub fault_of : code.Fault → rounds.Fault
  fault_of fault = record { site = fault.site; processor = fault.processor }

  -- the requests were done, up to the first fault
  pub record HaveAsked (old new : Store) (before after : List Actor) (fault : Option code.Fault)
      : Type 0 where
    pub phase : all_requests 0 (actings_of core before) old ≡ record {
      store = new;
      acting = actings_of core after;
      fault = option_map fault_of fault;
    }
    pub ready : fault ≡ None → AreReady after
    pub modes : modes_of after ≡ modes_of before
