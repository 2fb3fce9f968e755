-- Those so far have come.
use Rattle.std.specs.Prelude.{[]}
use Rattle.fk_tree.specs.Tree.{below}
use Rattle.fk_tree.specs.View.{tree_of, processors}
use Rattle.fk_replay_arrivals.proofs.Telling.{HaveCome}
use Rattle.fk_replay_arrivals.proofs.arrivals.tell_first.Given as goal

abbrev pub invariant-loop-number : goal.invariant-loop-number
invariant-loop-number l = HaveCome l.ops (tree_of l.tree) l.actors (below (processors l.tree) []) 1 l.fn.pace l.fn.arrived.items l.number l.pace l.arrived.items
