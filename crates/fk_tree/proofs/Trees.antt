-- Trees with the same nodes and places are one.
use Rattle.std.proofs.Common.{◌≡◌, ℕ, Option}
use Rattle.fk_tree.specs.Tree.{Node, Tree}

pub tree_same : (a b : Tree) → ((i : ℕ) → a.nodes i ≡ b.nodes i) → a.given ≡ b.given → ((h : ℕ) → a.places h ≡ b.places h) → a ≡ b
tree_same a b nodes given places = λ i. record { nodes = λ n. nodes n i; given = given i; places = λ h. places h i }

pub nodes_same : (f g : ℕ → Option Node) → ((i : ℕ) → f i ≡ g i) → f ≡ g
nodes_same f g e = λ i n. e n i
