-- The invariant of every tree that the steps make from a root.
use Rattle.std.specs.Prelude.{◌≡◌, ◌≢◌, ℕ, ◌≤◌, ◌<◌, nat_lt, Bool, true, false, ◌&&◌, List, [], ◌∷◌}
use Rattle.std.specs.Prelude.{Option, Some, None}
use Rattle.fk_tree.specs.declared.node.Kind.{Kind}
use Rattle.fk_tree.specs.declared.node.Kind.TheVariants.{Lockstep, Waiting}
use Rattle.fk_tree.specs.Tree.{Tree, members, parent, kind, is_member, below, is_from}

abbrev pub Has : Tree → ℕ → ℕ → Type 0
Has tree n h = is_member h (members tree n) ≡ true

-- a member of a node and of none of its children: it acts in that node, which is then a leaf for
-- it, or waits there
pub record IsAt (tree : Tree) (h n : ℕ) : Type 0 where
  pub member : Has tree n h
  pub own : (m : ℕ) → m ≢ 0 → parent tree m ≡ n → Has tree m h → ⊥

-- the numbers of the parts for which a node waits
abbrev pub awaits : Option Kind → ℕ → Bool
awaits (Some (Waiting first parts)) m = is_from first parts m
awaits _ m = false

abbrev pub is_below_all : ℕ → List ℕ → Bool
is_below_all h [] = true
is_below_all h (g ∷ gs) = nat_lt h g && is_below_all h gs

-- each number is below all numbers after it
abbrev pub is_ascending : List ℕ → Bool
is_ascending [] = true
is_ascending (h ∷ hs) = is_below_all h hs && is_ascending hs

-- the invariant of a tree of p processors. Each of them is at exactly one node
pub record IsSound (p : ℕ) (tree : Tree) : Type 0 where
  pub root : members tree 0 ≡ below p []
  pub some : 1 ≤ p
  pub free : kind tree 0 ≢ Some Lockstep
  pub placed : (h : ℕ) → h < p → IsAt tree h (tree.places h)
  pub only : (h n : ℕ) → IsAt tree h n → n ≡ tree.places h
  -- the members of a child are members of its parent, and not of another child of the parent
  pub among : (m h : ℕ) → m ≢ 0 → Has tree m h → Has tree (parent tree m) h
  pub apart : (m n h : ℕ) → m ≢ 0 → n ≢ 0 → parent tree m ≡ parent tree n → Has tree m h
      → Has tree n h → m ≡ n
  pub within : (n h : ℕ) → Has tree n h → h < p
  pub ascending : (n : ℕ) → is_ascending (members tree n) ≡ true
  -- a node that exists has members, a number that was given, and a parent that waits for it
  pub living : (n : ℕ) → members tree n ≡ [] → tree.nodes n ≡ None
  pub numbered : (n : ℕ) → tree.given ≤ n → tree.nodes n ≡ None
  pub awaited : (m : ℕ) → m ≢ 0 → tree.nodes m ≢ None → awaits (kind tree (parent tree m)) m ≡ true
  pub children : (n m : ℕ) → awaits (kind tree n) m ≡ true → tree.nodes m ≢ None → parent tree m ≡ n
  pub former : (n m : ℕ) → awaits (kind tree n) m ≡ true → m < tree.given
  pub lower : (n m : ℕ) → awaits (kind tree n) m ≡ true → m ≢ 0
