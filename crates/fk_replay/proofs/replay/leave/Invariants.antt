-- Those so far have left.
use Rattle.fk_replay.proofs.Leaving.{LeavesAt}
use Rattle.fk_replay.proofs.replay.leave.Given as goal

abbrev pub invariant-loop-member : goal.invariant-loop-member
invariant-loop-member l = LeavesAt l.acting l.fn.pace l.member-index l.pace
