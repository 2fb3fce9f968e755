use Rattle.std.proofs.Common.{length}
use Rattle.fk_top_input.proofs.Progress.{IsReadUpTo}
use Rattle.fk_top_input.proofs.reading.read_input.Given as goal

abbrev pub invariant-loop-word : goal.invariant-loop-word
invariant-loop-word l = IsReadUpTo l.limit l.bytes l.rest l.numbers.items l.place

abbrev pub decreases-loop-word : goal.decreases-loop-word
decreases-loop-word l = length l.rest
