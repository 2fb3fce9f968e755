-- The tree of groups.
use Rattle.std.specs.Prelude.{◌≡◌, ◌≢◌, ℕ, zero, suc, ◌+◌, ◌-◌, ◌==◌, nat_le, nat_lt, Bool, true}
use Rattle.std.specs.Prelude.{false, not, ◌&&◌, ◌||◌, List, [], ◌∷◌, Option, Some, None, is_none}
use Rattle.std.specs.Prelude.{filter, if◌then◌else◌}
use Rattle.fk_tree.specs.declared.node.Kind.{Kind}
use Rattle.fk_tree.specs.declared.node.Kind.TheVariants.{Lockstep, Waiting, Asynchronous}

-- a node: its members in ascending order, the node of which it is a part, and its kind. The members
-- of a node that waits are those of its parts, and those that wait
pub record Node : Type 0 where
  pub members : List ℕ
  pub parent : ℕ
  pub kind : Kind

-- the node of each number, the number of node numbers given so far, and the place of each
-- processor: the leaf of which it is a member, or the node at which it waits
pub record Tree : Type 0 where
  pub nodes : ℕ → Option Node
  pub given : ℕ
  pub places : ℕ → ℕ

abbrev pub members_of : Option Node → List ℕ
members_of None = []
members_of (Some node) = node.members

abbrev pub parent_of : Option Node → ℕ
parent_of None = 0
parent_of (Some node) = node.parent

abbrev pub kind_of : Option Node → Option Kind
kind_of None = None
kind_of (Some node) = Some node.kind

abbrev pub members : Tree → ℕ → List ℕ
members tree n = members_of (tree.nodes n)

abbrev pub parent : Tree → ℕ → ℕ
parent tree n = parent_of (tree.nodes n)

abbrev pub kind : Tree → ℕ → Option Kind
kind tree n = kind_of (tree.nodes n)

abbrev pub is_member : ℕ → List ℕ → Bool
is_member h [] = false
is_member h (m ∷ ms) = (h == m) || is_member h ms

-- a node without members has ended, and no longer exists
abbrev pub node_of : (members : List ℕ) (parent : ℕ) (kind : Kind) → Option Node
node_of [] parent kind = None
node_of (h ∷ hs) parent kind = Some (record { members = h ∷ hs; parent = parent; kind = kind })

-- the nodes with another node, or none, at one number
abbrev pub with_node : ℕ → Option Node → (ℕ → Option Node) → ℕ → Option Node
with_node n node nodes i = if i == n then node else nodes i

abbrev pub turned : Kind → Option Node → Option Node
turned kind None = None
turned kind (Some node) = Some (record node { kind = kind })

abbrev pub with_kind : ℕ → Kind → Tree → Tree
with_kind n kind tree = record tree { nodes = with_node n (turned kind (tree.nodes n)) tree.nodes }

-- the numbers below p, in ascending order, before others
abbrev pub below : ℕ → List ℕ → List ℕ
below zero more = more
below (suc p) more = below p (p ∷ more)

-- the tree at the beginning: one node, in which all p processors run by themselves
abbrev pub root : ℕ → Tree
root p = record {
  nodes = with_node 0 (node_of (below p []) 0 (Asynchronous false)) (λ i. None);
  given = 1;
  places = λ h. 0;
}

-- whether a member goes into part i; `None` means that it waits
abbrev pub is_in : ℕ → Option ℕ → Bool
is_in i None = false
is_in i (Some j) = i == j

abbrev pub place_in : (old first : ℕ) → Option ℕ → ℕ
place_in old first None = old
place_in old first (Some i) = first + i

abbrev pub is_from : (first count i : ℕ) → Bool
is_from first count i = nat_le first i && nat_lt i (first + count)

-- a node waits for k parts of those of its members that enter one. The parts have the next numbers
abbrev pub split : ℕ → (k : ℕ) → (part : ℕ → Option ℕ) → Tree → Tree
split n k part tree =
    let first = tree.given in
    record {
      nodes = λ i. if is_from first k i
          then node_of (filter (λ h. is_in (i - first) (part h)) (members tree n)) n Lockstep
          else (with_kind n (Waiting first k) tree).nodes i;
      given = first + k;
      places = λ h. if is_member h (members tree n) then place_in (tree.places h) first (part h)
          else tree.places h;
    }

-- the root waits for one group, of the processors with numbers below `count`
abbrev pub first_part : ℕ → ℕ → Option ℕ
first_part count h = if nat_lt h count then Some 0 else None

abbrev pub begin : ℕ → Tree → Tree
begin count tree = split 0 1 (first_part count) tree

-- the members that don't stay leave a part, and wait at its parent
abbrev pub left_by : (ℕ → Bool) → Option Node → Option Node
left_by stays None = None
left_by stays (Some node) = node_of (filter stays node.members) node.parent node.kind

abbrev pub shrink : ℕ → (stays : ℕ → Bool) → Tree → Tree
shrink n stays tree = record tree {
  nodes = with_node n (left_by stays (tree.nodes n)) tree.nodes;
  places = λ h. if is_member h (members tree n) && not (stays h) then parent tree n
      else tree.places h;
}

-- a part ends: all members leave
abbrev pub finish : ℕ → Tree → Tree
finish n tree = shrink n (λ h. false) tree

-- a body that all members run by themselves, or that the lowest runs alone
abbrev pub farm : ℕ → Tree → Tree
farm n tree = with_kind n (Asynchronous false) tree

abbrev pub single : ℕ → Tree → Tree
single n tree = with_kind n (Asynchronous true) tree

-- such a body ends
abbrev pub meet : ℕ → Tree → Tree
meet n tree = with_kind n Lockstep tree

-- whether a kind waits for parts
abbrev pub is_waiting : Option Kind → Bool
is_waiting (Some (Waiting first parts)) = true
is_waiting _ = false

-- a node with a body; the root doesn't count as one
pub record HasBody (tree : Tree) (n : ℕ) : Type 0 where
  pub alone : Bool
  pub part : n ≢ 0
  pub body : kind tree n ≡ Some (Asynchronous alone)

-- the members that run the body of an asynchronous node
abbrev pub runs : Kind → List ℕ → List ℕ
runs (Asynchronous true) (h ∷ hs) = h ∷ []
runs kind hs = hs

-- a node that waits goes on; the members of the root run by themselves then, and every other node
-- is in lockstep
abbrev pub kind_after : ℕ → Kind
kind_after zero = Asynchronous false
kind_after (suc n) = Lockstep

abbrev pub resume : ℕ → Tree → Tree
resume n tree = with_kind n (kind_after n) tree

abbrev pub has_ended : Tree → ℕ → Bool
has_ended tree n = is_none (tree.nodes n)

abbrev pub have_ended : Tree → (first parts : ℕ) → Bool
have_ended tree first zero = true
have_ended tree first (suc k) = has_ended tree (first + k) && have_ended tree first k

-- a node is ready to go on if it waits and all its parts have ended
abbrev pub is_ready : Tree → Option Kind → Bool
is_ready tree (Some (Waiting first parts)) = have_ended tree first parts
is_ready tree _ = false

abbrev pub ready : Tree → ℕ → Bool
ready tree n = is_ready tree (kind tree n)

-- the element that a list has for a member, in the order of the members
abbrev pub told : {A : Type 0} → A → (members : List ℕ) → List A → ℕ → A
told other [] xs h = other
told other (m ∷ ms) [] h = other
told other (m ∷ ms) (x ∷ xs) h = if h == m then x else told other ms xs h

-- the part with a number, if it is one of k
abbrev pub part_of : (k i : ℕ) → Option ℕ
part_of k i = if nat_lt i k then Some i else None

-- the part of each member, for a list with a number for each of them. A member whose number is no
-- part waits
abbrev pub parts_by : (k : ℕ) (members of : List ℕ) → ℕ → Option ℕ
parts_by k members of h = part_of k (told k members of h)

abbrev pub stays_by : (members : List ℕ) (stay : List Bool) → ℕ → Bool
stays_by members stay h = told false members stay h
