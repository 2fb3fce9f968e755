use Rattle.std.proofs.Common.{length, map}
use Rattle.fk_replay_text.specs.View.{moment_of}
use Rattle.fk_replay_text.proofs.Progress.{IsReading}
use Rattle.fk_replay_text.proofs.reading.read_body.Given as goal

abbrev pub invariant-loop-line : goal.invariant-loop-line
invariant-loop-line l = IsReading l.harts l.text l.rest (map moment_of l.moments.items) l.place.cycle l.place.rank l.number

abbrev pub decreases-loop-line : goal.decreases-loop-line
decreases-loop-line l = length l.rest
