-- The fault of a stopped round.
use Rattle.std.specs.Prelude.{◌≡◌, Option, Some}
use Rattle.fk_meaning.specs.Processor.{Setting}
use Rattle.fk_meaning.specs.Round.{Step, State, Round, result, IsStopped}

-- a stopped round has the first fault of the whole round from which it was cut
abbrev pub StoppedRoundsFault : (W : Type 0) → Type 0
StoppedRoundsFault W =
    (next : W → Option (Step W)) (setting : Setting) (round : Round) (s : State W)
    (stopped : IsStopped next setting round s)
    → (result next setting round s).fault ≡ Some stopped.fault
