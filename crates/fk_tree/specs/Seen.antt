-- The nodes of the definitions that a map of live nodes represents.
use Rattle.std.specs.Prelude.{◌≡◌, ℕ, zero, suc, ◌+◌, ◌-◌, ◌==◌, ◌&&◌, nat_eq, slice_index, filter}
use Rattle.std.specs.Prelude.{is_none, not, Bool, List, [], ◌∷◌, ◌++◌, Option, Some, None}
use Rattle.std.specs.Prelude.{if◌then◌else◌}
use Rattle.std.specs.declared.hash.FoldHasher.{FoldHasher}
use Rattle.std.specs.declared.hash.BuildHasherDefault.{BuildHasherDefault}
use Rattle.std.specs.HashMap.{get, HashMap}
use Rattle.fk_tree.specs.declared.node.Kind.{Kind}
use Rattle.fk_tree.specs.declared.node.Kind.TheVariants.{Lockstep, Waiting}
use Rattle.fk_tree.specs.declared.node.LiveNode.{LiveNode}
use Rattle.fk_tree.specs.Tree.{Node, Tree, kind_of, node_of, is_waiting, is_from, is_in, is_member}
use Rattle.fk_tree.specs.Tree.{place_in}

abbrev pub Held : Type 0
Held = HashMap ℕ LiveNode (BuildHasherDefault FoldHasher)

abbrev pub node_seen : Option LiveNode → Option Node
node_seen None = None
node_seen (Some node) =
    Some (record { members = node.members.items; parent = node.parent; kind = node.kind })

abbrev pub nodes_seen : Held → ℕ → Option Node
nodes_seen held n = node_seen (get nat_eq held n)

abbrev pub count_seen : Option LiveNode → ℕ
count_seen None = 0
count_seen (Some node) = node.living

-- the number of parts of a node that haven't ended, as the node counts them
abbrev pub living_seen : Held → ℕ → ℕ
living_seen held n = count_seen (get nat_eq held n)

abbrev pub tree_seen : (given : ℕ) (places : List ℕ) → Held → Tree
tree_seen given places held =
    record { nodes = nodes_seen held; given = given; places = λ h. slice_index places h }

abbrev pub is_ready_node : LiveNode → Bool
is_ready_node node = is_waiting (Some node.kind) && (node.living == 0)

-- a part after one more processor has joined it; it is made if it doesn't exist yet
abbrev pub with_member : (parent h : ℕ) → Option Node → Option Node
with_member parent h None = node_of (h ∷ []) parent Lockstep
with_member parent h (Some node) = Some (record node { members = node.members ++ h ∷ [] })

-- the number of k parts that haven't ended
abbrev pub living_parts : (nodes : ℕ → Option Node) (first k : ℕ) → ℕ
living_parts nodes first zero = 0
living_parts nodes first (suc k) =
    (if is_none (nodes (first + k)) then 0 else 1) + living_parts nodes first k

abbrev pub count_of : (nodes : ℕ → Option Node) → Option Kind → ℕ
count_of nodes (Some (Waiting first k)) = living_parts nodes first k
count_of nodes _ = 0

-- each node has the number of its parts that haven't ended
abbrev pub AreCounted : (nodes : ℕ → Option Node) (counts : ℕ → ℕ) → Type 0
AreCounted nodes counts = (n : ℕ) → counts n ≡ count_of nodes (kind_of (nodes n))

-- the nodes after the parts of a node that have members were added
abbrev pub divided : (first parent k : ℕ) → (part : ℕ → Option ℕ) → (members : List ℕ)
    → (nodes : ℕ → Option Node) → ℕ → Option Node
divided first parent k part members nodes i =
    if is_from first k i
    then node_of (filter (λ h. is_in (i - first) (part h)) members) parent Lockstep else nodes i

-- the places of the processors after these members have joined their parts
abbrev pub placed_by : (first : ℕ) (part : ℕ → Option ℕ) (members : List ℕ) (places : ℕ → ℕ) → ℕ → ℕ
placed_by first part members places h =
    if is_member h members then place_in (places h) first (part h) else places h

-- the places of the processors after the members that don't stay have left for a node
abbrev pub left_to : (node : ℕ) (stays : ℕ → Bool) (members : List ℕ) (places : ℕ → ℕ) → ℕ → ℕ
left_to node stays members places h =
    if is_member h members && not (stays h) then node else places h
