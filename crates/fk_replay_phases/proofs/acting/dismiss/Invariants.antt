-- The counts of those so far are removed.
use Rattle.fk_replay_phases.proofs.Emptied.{DismissesAt}
use Rattle.fk_replay_phases.proofs.acting.dismiss.Given as goal

abbrev pub invariant-loop-member : goal.invariant-loop-member
invariant-loop-member l = DismissesAt l.acting l.fn.counts.items l.member-index l.counts.items
