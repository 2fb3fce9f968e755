-- A run that stops early, because a sink failed.
use Rattle.std.specs.Prelude.{◌≡◌, ℕ, ◌+◌, ◌<◌, List, Option, true}
use Rattle.std.specs.Io.KnownBytes.{append_known}
use Rattle.fk_ports.specs.Known.{TakesPrefix}
use Rattle.fk_machine.specs.Cycle.{Machine, is_running}
use Rattle.fk_machine.specs.Run.{after, output_in}

-- Some of these cycles were run, at least one. The sink had taken `before`. It took all that they
-- print, except for the last of them, and only a prefix of what that one prints.
pub record StoppedEarly (cycles : ℕ) (old new : Machine)
    (before now : Option (List ℕ)) : Type 0 where
  pub told : ℕ
  pub few : told < cycles
  pub running : is_running (after told old).stand ≡ true
  pub machine : new ≡ after (told + 1) old
  pub taken : TakesPrefix (append_known before (output_in told old)) now new.shared.output
