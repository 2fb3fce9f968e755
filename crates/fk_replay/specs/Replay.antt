-- What the replay of a list under a trace answers.
use Rattle.std.specs.Prelude.{◌≡◌, ℕ, List, [], map, None, Result}
use Rattle.std.specs.Prelude.{Ok, Err}
use Rattle.fk_meaning.specs.Processor.{Setting, setting_of}
use Rattle.fk_meaning.specs.Round.{State}
use Rattle.fk_meaning.specs.Schedule.{Schedule, SourceStand, IsLawful, ArePossible, run, stand_of}
use Rattle.fk_meaning.specs.Schedule.{SourceRunning, SourceFinished, SourceFaulted}
use Rattle.fk_core.specs.declared.op.CoreOp.{CoreOp}
use Rattle.fk_core.specs.Next.{Position, position, landing, next, list_opening}
use Rattle.fk_lockstep_tree.specs.Runs.{AlwaysInTree}
use Rattle.fk_replay_text.specs.declared.fault.ReplayFault.{ReplayFault}
use Rattle.fk_replay_text.specs.declared.fault.ReplayFault.TheVariants.{BadTrace, NotPossible, Pace}
use Rattle.fk_replay_text.specs.declared.fault.ReplayFault.TheVariants.{Memory}
use Rattle.fk_replay_text.specs.declared.trace.Trace.{Trace}
use Rattle.fk_replay_text.specs.View.{IsTold, moment_of}
use Rattle.fk_replay_text.specs.Rounds.{schedule_of}
use Rattle.fk_replay.specs.declared.end.End.{End}
use Rattle.fk_replay.specs.declared.end.End.TheVariants.{Running, Finished, Faulted}
use Rattle.fk_replay.specs.declared.end.Replayed.{Replayed}
use Rattle.fk_replay_schedules.specs.Answers.{IsNotPossible, IsPassedOver}
use Rattle.fk_replay_phases.specs.Safe.{AreSafe}

abbrev pub stand_in : End → SourceStand
stand_in Running = SourceRunning
stand_in Finished = SourceFinished
stand_in (Faulted site processor) =
    SourceFaulted (record { site = site; processor = processor })

-- a trace that some text tells
pub record IsOfText (trace : Trace) : Type 0 where
  pub text : List ℕ
  pub told : IsTold trace text

abbrev pub schedule_in : Trace → Schedule
schedule_in trace =
    schedule_of trace.harts (map moment_of trace.moments.items) trace.cycles

-- after every schedule of possible rounds of single operations the members of a group stand at one
-- place, who waits for parts is about to resume, and who stays out of the body of a `seq` is at its
-- end
abbrev pub IsOrderly : (core : List CoreOp) → (main : ℕ) → Type 0
IsOrderly core main = AlwaysInTree (next core) (λ w. landing core w.at) (position main [])

module _ (core : List CoreOp) (main : ℕ) (words firsts input : List ℕ) (p : ℕ) where
  abbrev pub setting_in : Setting
  setting_in = setting_of p words input

  abbrev pub first_in : State Position
  first_in = list_opening main words firsts input p

  abbrev pub after_in : Schedule → State Position
  after_in schedule = run (next core) setting_in schedule first_in

  -- after every schedule of possible rounds, whichever of its local operations a processor has
  -- done: an address that a request uses may be used, and a call that ends can give back its frames
  abbrev pub IsSafe : Type 0
  IsSafe =
      (schedule : Schedule) → ArePossible (next core) setting_in schedule first_in
      → (after_in schedule).fault ≡ None → AreSafe core setting_in (after_in schedule).runners

  -- the output and the status are those of the run under a lawful schedule
  pub record IsReplay (schedule : Schedule) (replayed : Replayed) : Type 0 where
    pub lawful : IsLawful (next core) setting_in schedule first_in
    pub output : replayed.output.items ≡ (after_in schedule).store.output
    pub stand : stand_in replayed.end ≡ stand_of (next core) setting_in (after_in schedule)

  abbrev pub IsAnswer : Schedule → Result Replayed ReplayFault → Type 0
  IsAnswer schedule (Ok replayed) = IsReplay schedule replayed
  IsAnswer schedule (Err (NotPossible round)) =
      IsNotPossible (next core) setting_in schedule first_in round
  IsAnswer schedule (Err (Pace round processor)) =
      IsPassedOver (next core) setting_in schedule first_in round processor
  IsAnswer schedule (Err (BadTrace line)) = ⊥
  IsAnswer schedule (Err Memory) = Unit {0}
