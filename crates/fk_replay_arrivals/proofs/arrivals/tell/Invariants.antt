-- Those so far have come.
use Rattle.fk_tree.specs.View.{tree_of}
use Rattle.fk_replay_phases.specs.Present.{numbers_of}
use Rattle.fk_replay_arrivals.proofs.Telling.{HaveCome}
use Rattle.fk_replay_arrivals.proofs.arrivals.tell.Given as goal

abbrev pub invariant-loop-member : goal.invariant-loop-member
invariant-loop-member l = HaveCome l.ops (tree_of l.tree) l.actors (numbers_of l.acting) l.round l.fn.pace l.fn.arrived.items l.member-index l.pace l.arrived.items
