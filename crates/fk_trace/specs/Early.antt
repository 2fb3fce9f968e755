-- The trace of a machine, and traces that stop early, because a sink failed.
use Rattle.std.specs.Prelude.{◌≡◌, ℕ, ◌+◌, ◌<◌, ◌⊎◌, List, ◌++◌, Option, length, true}
use Rattle.std.specs.Io.KnownBytes.{append_known}
use Rattle.fk_ports.specs.Known.{TakesPrefix}
use Rattle.fk_machine.specs.Cycle.{Machine, is_running}
use Rattle.fk_machine.specs.Run.{after, committed, committed_in}
use Rattle.fk_trace.specs.Text.{cycle_lines, lines_from, first_lines, last_line, trace_text}

-- The trace of a machine's first cycles.
abbrev pub trace_of : ℕ → Machine → List ℕ
trace_of cycles m = trace_text (length m.harts) (committed_in cycles m)

-- The lines of n cycles more.
abbrev pub lines_in : ℕ → Machine → List ℕ
lines_in n m = lines_from (m.begun + 1) (committed_in n m)

-- Some of these cycles were run, at least one. The sink had taken `before`. It took the lines of
-- all of them, except for the last, and only a prefix of those of that one.
pub record StoppedInCycle (cycles : ℕ) (old new : Machine)
    (before now : Option (List ℕ)) : Type 0 where
  pub told : ℕ
  pub few : told < cycles
  pub running : is_running (after told old).stand ≡ true
  pub machine : new ≡ after (told + 1) old
  pub taken : TakesPrefix (append_known before (lines_in told old)) now
      (cycle_lines new.begun (committed new))

-- The sink failed in the first two lines, and no cycle was run; or in the lines of a cycle; or in
-- the last line, when all cycles were run.
abbrev pub TracedEarly : ℕ → Machine → Machine → Option (List ℕ) → Option (List ℕ) → Type 0
TracedEarly cycles old new before now =
    ((new ≡ old) × TakesPrefix before now (first_lines (length old.harts)))
    ⊎ StoppedInCycle cycles old new (append_known before (first_lines (length old.harts))) now
    ⊎ ((new ≡ after cycles old)
    × TakesPrefix (append_known before (first_lines (length old.harts) ++ lines_in cycles old)) now
    (last_line new.begun))
