-- Those so far fit.
use Rattle.fk_tree.specs.View.{tree_of, processors}
use Rattle.fk_replay_phases.specs.Joints.{joint_at}
use Rattle.fk_replay_phases.proofs.Fitting.{FitsAt}
use Rattle.fk_replay_phases.proofs.fits.all_fit.Given as goal

abbrev pub invariant-loop-member : goal.invariant-loop-member
invariant-loop-member l = FitsAt l.counts l.last (joint_at l.ops l.actors l.last) (tree_of l.tree) (processors l.tree) l.acting l.member-index
