-- The tree of a core run as a plan: the node of each processor, each node's own control words, and
-- who meets there.
use Rattle.std.specs.Prelude.{◌≡◌, ◌≢◌, ℕ, zero, suc, ◌+◌, ◌-◌, ◌≤◌, ◌==◌, ◌&&◌, ◌||◌, Bool, true}
use Rattle.std.specs.Prelude.{false, List, [], length, map, Option, Some, None, is_some}
use Rattle.std.specs.Prelude.{if◌then◌else◌, ◌⊎◌}
use Rattle.fk_space.specs.Space.{Space}
use Rattle.fk_tree.specs.declared.node.Kind.{Kind}
use Rattle.fk_tree.specs.declared.node.Kind.TheVariants.{Lockstep, Waiting}
use Rattle.fk_tree.specs.Tree as t
use Rattle.fk_tree.specs.Tree.{Tree, is_from, is_member, is_waiting}
use Rattle.fk_meaning.specs.Round.{Runner, body_of}
use Rattle.fk_sim_nodes.specs.Node.{Words}
use Rattle.fk_sim_match.specs.Plan.{Plan}
use Rattle.fk_sim_block.specs.Node.{root_words}

-- The first control word of a node, given the space of each group. The root's words lie after all
-- words of shared data.
abbrev pub first_of : (spaces : ℕ → Space) → ℕ → ℕ
first_of spaces zero = root_words
first_of spaces (suc g) = (spaces (suc g)).low

-- how many words from there on are a node's own. A group has those of its space; one that waits has
-- given the words behind its header to its parts. The root has its header alone
abbrev pub own_words : (spaces : ℕ → Space) → (g : ℕ) → Option Kind → ℕ
own_words spaces zero kind = 8
own_words spaces (suc g) kind =
    if is_waiting kind then 8 else (spaces (suc g)).high - (spaces (suc g)).low

abbrev pub owns : Tree → (spaces : ℕ → Space) → (g : ℕ) → Words
owns tree spaces g i =
    is_some (tree.nodes g) && is_from (first_of spaces g) (own_words spaces g (t.kind tree g)) i

-- a space lies in another one, behind its header
pub record LiesIn (inner outer : Space) : Type 0 where
  pub above : outer.low + 8 ≤ inner.low
  pub below : inner.high ≤ outer.high

-- the spaces of groups are nested. Each has room for a header, and lies among the words of shared
-- data; that of a part lies in that of its parent, which waits, and shares no word with those of
-- the parent's other parts
pub record HaveSpaces (tree : Tree) (spaces : ℕ → Space) : Type 0 where
  pub header : (g : ℕ) → g ≢ 0 → is_some (tree.nodes g) ≡ true
      → (spaces g).low + 8 ≤ (spaces g).high
  pub within : (g : ℕ) → g ≢ 0 → is_some (tree.nodes g) ≡ true → (spaces g).high ≤ root_words
  pub waits : (g : ℕ) → g ≢ 0 → is_some (tree.nodes g) ≡ true
      → is_waiting (t.kind tree (t.parent tree g)) ≡ true
  pub nested : (g : ℕ) → g ≢ 0 → is_some (tree.nodes g) ≡ true → t.parent tree g ≢ 0
      → LiesIn (spaces g) (spaces (t.parent tree g))
  pub apart : (g k : ℕ) → g ≢ 0 → k ≢ 0 → (g ≡ k → ⊥) → is_some (tree.nodes g) ≡ true
      → is_some (tree.nodes k) ≡ true → t.parent tree g ≡ t.parent tree k
      → ((spaces g).high ≤ (spaces k).low) ⊎ ((spaces k).high ≤ (spaces g).low)

-- ---- who meets

-- who runs the body of a node. Nobody does in a group that waits for its parts; those who wait in
-- the root are to go on with its body
abbrev pub body_at : Option Kind → (g : ℕ) → (members : List ℕ) → List ℕ
body_at (Some (Waiting first parts)) (suc g) members = []
body_at kind g members = body_of kind members

-- at the first word of a node those who run its body, at the next one all its members
abbrev pub meeters_at : Tree → (g offset : ℕ) → List ℕ
meeters_at tree g zero = body_at (t.kind tree g) g (t.members tree g)
meeters_at tree g (suc zero) = t.members tree g
meeters_at tree g (suc (suc i)) = []

abbrev pub is_arrival : (offset : ℕ) → Bool
is_arrival zero = true
is_arrival (suc zero) = true
is_arrival (suc (suc i)) = false

-- The node that owns a word, of those with numbers below `count`.
abbrev pub owner_among : Tree → (spaces : ℕ → Space) → (count word : ℕ) → Option ℕ
owner_among tree spaces zero word = None
owner_among tree spaces (suc g) word = if owns tree spaces g word then Some g
    else owner_among tree spaces g word

abbrev pub meeters_by : Tree → (spaces : ℕ → Space) → (word : ℕ) → Option ℕ → List ℕ
meeters_by tree spaces word None = []
meeters_by tree spaces word (Some g) = meeters_at tree g (word - first_of spaces g)

abbrev pub is_arrival_by : (spaces : ℕ → Space) → (word : ℕ) → Option ℕ → Bool
is_arrival_by spaces word None = false
is_arrival_by spaces word (Some g) = is_arrival (word - first_of spaces g)

abbrev pub meeters : Tree → (spaces : ℕ → Space) → (word : ℕ) → List ℕ
meeters tree spaces word = meeters_by tree spaces word (owner_among tree spaces tree.given word)

-- ---- the plan

abbrev pub is_lockstep : Option Kind → Bool
is_lockstep (Some Lockstep) = true
is_lockstep kind = false

-- The node of each processor.
abbrev pub nodes_of : {W : Type 0} → Tree → List (Runner W) → List ℕ
nodes_of tree rs = map (λ r. tree.places r.has.number) rs

abbrev pub plan_of : Tree → (spaces : ℕ → Space) → (nodes : List ℕ) → Plan
plan_of tree spaces nodes = record {
  nodes = nodes;
  words = owns tree spaces;
  in_lockstep = λ g. is_lockstep (t.kind tree g);
  arrivals = λ w. is_arrival_by spaces w (owner_among tree spaces tree.given w);
  size = λ w. length (meeters tree spaces w);
  member = λ w h. is_member h (meeters tree spaces w);
}

-- The plan with the root in lockstep: its members have met at the beginning of `start`, and are in
-- lockstep until they commit.
abbrev pub united : Plan → Plan
united plan = record plan { in_lockstep = λ g. (g == 0) || plan.in_lockstep g }
