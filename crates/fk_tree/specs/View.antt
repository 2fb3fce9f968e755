-- The tree that a `Tree` holds.
use Rattle.std.specs.Prelude.{ℕ, vec_len}
use Rattle.fk_tree.specs.declared.tree.Tree.{Tree}
use Rattle.fk_tree.specs.Tree as t
use Rattle.fk_tree.specs.Seen.{tree_seen}

abbrev pub tree_of : Tree → t.Tree
tree_of tree = tree_seen tree.given tree.places.items tree.nodes

-- the number of processors of a tree
abbrev pub processors : Tree → ℕ
processors tree = vec_len tree.places
