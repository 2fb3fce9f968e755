-- What the replay of a program under a schedule answers.
use Rattle.std.specs.Prelude.{◌≡◌, ℕ, List, Option, Result, Ok, Err, map}
use Rattle.fk_syntax.specs.declared.facts.Facts.{Facts}
use Rattle.fk_syntax.specs.Program.{ProgramTree}
use Rattle.fk_meaning_forms.specs.Program.{sites_of}
use Rattle.fk_meaning.specs.Processor.{Setting}
use Rattle.fk_meaning.specs.Round.{Step, State}
use Rattle.fk_meaning.specs.Schedule.{Schedule, IsLawful, run, stand_of}
use Rattle.fk_layout.specs.Layout.{tables_by}
use Rattle.fk_replay_text.specs.declared.fault.ReplayFault.{ReplayFault}
use Rattle.fk_replay_text.specs.declared.fault.ReplayFault.TheVariants.{BadTrace, NotPossible, Pace}
use Rattle.fk_replay_text.specs.declared.fault.ReplayFault.TheVariants.{Memory}
use Rattle.fk_replay.specs.declared.end.Replayed.{Replayed}
use Rattle.fk_replay_schedules.specs.Answers.{IsNotPossible, IsPassedOver}
use Rattle.fk_replay.specs.Replay.{stand_in}
use Rattle.fk_compile.specs.Faithful.{firsts_by, in_image, words_by}
use Rattle.fk_trace_laws.specs.Program.{first, next_of, setting}

module _ {W : Type 0} (next : W → Option (Step W)) (setting : Setting) (opening : State W)
    (schedule : Schedule) where
  -- the schedule is lawful, and the output and the status are those of the run under it
  pub record IsRun (replayed : Replayed) : Type 0 where
    pub lawful : IsLawful next setting schedule opening
    pub output : replayed.output.items ≡ (run next setting schedule opening).store.output
    pub stand : stand_in replayed.end ≡ stand_of next setting (run next setting schedule opening)

  abbrev pub Answers : Result Replayed ReplayFault → Type 0
  Answers (Ok replayed) = IsRun replayed
  Answers (Err (NotPossible round)) = IsNotPossible next setting schedule opening round
  Answers (Err (Pace round processor)) =
      IsPassedOver next setting schedule opening round processor
  Answers (Err (BadTrace line)) = ⊥
  Answers (Err Memory) = Unit {0}

-- the answer for a program of which these are all facts, with this input and p processors
abbrev pub IsAnswerFor : ProgramTree → Facts → (input : List ℕ) → (p : ℕ) → Schedule
    → Result Replayed ReplayFault → Type 0
IsAnswerFor program facts input p =
    let tables = tables_by program facts in
    let words = words_by program facts in
    let firsts = firsts_by program facts in
    Answers (next_of tables program words firsts input p)
    (setting tables program words firsts input p) (first tables program words firsts input p)

-- the kinds, lines and columns of the program's operations, by their numbers
abbrev pub sites_by : ProgramTree → Facts → List (ℕ × ℕ × ℕ)
sites_by program facts = map in_image (sites_of (tables_by program facts) program)
