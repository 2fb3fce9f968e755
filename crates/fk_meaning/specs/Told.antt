-- Lists that give a step of the tree the part of each member, or whether it stays.
use Rattle.std.specs.Prelude.{◌≡◌, ℕ, nat_lt, Bool, true, map, Option, Some, None}
use Rattle.fk_tree.specs.Tree.{Tree, members, is_member, split, shrink, parts_by, stays_by}

-- the number that a list has for a member's part, one of k; a member that waits has the number k
abbrev pub number_of : (k : ℕ) → Option ℕ → ℕ
number_of k None = k
number_of k (Some i) = i

-- a split into k parts, and a shrink, are the same whether a function gives the part, or whether to
-- stay, for each processor, or a list gives it for each member, in their order
pub record ListsTell (n : ℕ) (tree : Tree) : Type 0 where
  pub parts : (k : ℕ) (part : ℕ → Option ℕ)
      → ((h i : ℕ) → is_member h (members tree n) ≡ true → part h ≡ Some i → nat_lt i k ≡ true)
      → split n k (parts_by k (members tree n) (map (λ h. number_of k (part h)) (members tree n)))
      tree ≡ split n k part tree
  pub stays : (stays : ℕ → Bool)
      → shrink n (stays_by (members tree n) (map stays (members tree n))) tree ≡ shrink n stays tree

abbrev pub ListsTellMembers : Type 0
ListsTellMembers = (n : ℕ) (tree : Tree) → ListsTell n tree
