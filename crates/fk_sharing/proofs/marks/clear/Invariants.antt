-- The notes that were gone over are cleared.
use Rattle.std.proofs.Common.{◌≡◌}
use Rattle.fk_sharing.proofs.Clearing.{cleared_first}
use Rattle.fk_sharing.proofs.marks.clear.Given as goal

abbrev pub invariant-loop-note : goal.invariant-loop-note
invariant-loop-note l = l.notes ≡ cleared_first l.note-index l.fn.notes
