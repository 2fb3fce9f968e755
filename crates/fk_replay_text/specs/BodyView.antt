-- What the lines behind the first two tell.
use Rattle.std.specs.Prelude.{◌≡◌, ℕ, ◌+◌, ◌<◌, List, map}
use Rattle.fk_replay_text.specs.Lines.{IsBadLine}
use Rattle.fk_replay_text.specs.Trace.{HasBody, IsBody, Told, moments_of}
use Rattle.fk_replay_text.specs.View.{moment_of}
use Rattle.fk_replay_text.specs.declared.fault.ReplayFault.{ReplayFault}
use Rattle.fk_replay_text.specs.declared.fault.ReplayFault.TheVariants.{BadTrace}
use Rattle.fk_replay_text.specs.declared.trace.Trace.{Trace}

-- the trace has the cycles and the counts of these lines
pub record IsToldBy (trace : Trace) (text : List ℕ) : Type 0 where
  pub lines : List Told
  pub body : IsBody trace.harts trace.cycles lines text
  pub moments : map moment_of trace.moments.items ≡ moments_of lines

-- these lines have a first bad one. Two lines are before them
pub record IsBadBody (harts : ℕ) (text : List ℕ) (fault : ReplayFault) : Type 0 where
  pub line : ℕ
  pub one : 0 < line
  pub fault_is : fault ≡ BadTrace (line + 2)
  pub bad : IsBadLine (HasBody harts) line text
