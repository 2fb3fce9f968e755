-- Those so far have begun.
use Rattle.std.proofs.Common.{take}
use Rattle.fk_replay_arrivals.specs.Arrived.{HaveBegun}
use Rattle.fk_replay_arrivals.proofs.arrivals.begin_all.Given as goal

abbrev pub invariant-loop-member : goal.invariant-loop-member
invariant-loop-member l = HaveBegun (take l.member-index l.members) l.round l.fn.pace l.pace
