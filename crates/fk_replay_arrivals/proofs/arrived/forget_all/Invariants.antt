-- What those so far do is forgotten.
use Rattle.fk_replay_arrivals.proofs.Counting.{HaveForgottenAt}
use Rattle.fk_replay_arrivals.proofs.arrived.forget_all.Given as goal

abbrev pub invariant-loop-member : goal.invariant-loop-member
invariant-loop-member l = HaveForgottenAt l.acting l.actors l.fn.arrived.items l.member-index l.arrived.items
