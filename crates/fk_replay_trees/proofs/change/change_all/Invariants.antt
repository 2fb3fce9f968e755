-- The steps of the nodes so far.
use Rattle.std.proofs.Common.{◌≡◌}
use Rattle.fk_tree.specs.View.{tree_of, processors}
use Rattle.fk_replay_trees.proofs.Loop.{Given, ChangesAt}
use Rattle.fk_replay_trees.proofs.change.change_all.Given as goal

abbrev pub invariant-loop-member : goal.invariant-loop-member
invariant-loop-member l =
    (processors l.tree ≡ processors l.initial.tree)
    × ((given : Given (processors l.initial.tree) (tree_of l.initial.tree) l.acting l.actors)
    → ChangesAt (processors l.initial.tree) (tree_of l.initial.tree) l.acting l.actors given l.member-index (tree_of l.tree))
