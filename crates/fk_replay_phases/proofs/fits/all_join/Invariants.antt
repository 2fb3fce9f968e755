-- All join if the others do.
use Rattle.std.proofs.Common.{◌≡◌, drop}
use Rattle.fk_replay_rounds.specs.Fits.{all_join}
use Rattle.fk_replay_phases.specs.Joints.{joint_at}
use Rattle.fk_replay_phases.proofs.fits.all_join.Given as goal

abbrev pub invariant-loop-member : goal.invariant-loop-member
invariant-loop-member l = all_join l.counts l.last (joint_at l.ops l.actors l.last) l.joint l.members ≡ all_join l.counts l.last (joint_at l.ops l.actors l.last) l.joint (drop l.member-index l.members)
