-- The steps of several nodes, which their lowest members bring to the tree one after the other.
use Rattle.std.proofs.Common.{◌≡◌, ◌≢◌, ℕ, zero, suc, ◌+◌, ◌^◌, ◌<◌, ◌≤◌, min, Bool, true, false, ◌&&◌, ◌⊎◌, inl, inr, length, Option, Some, None, ap, refl, sym, ◌∙◌, arith}
use Rattle.std.specs.Prelude.{◌==◌, nat_lt, nat_le, if◌then◌else◌, is_none}
use Rattle.fk_tree.specs.Tree as t
use Rattle.fk_tree.specs.Tree.{Tree, Node, is_member, is_from, with_node, with_kind, turned, left_by, has_ended, have_ended}
use Rattle.fk_tree.specs.Sound.{IsSound, awaits}
use Rattle.fk_tree.specs.declared.node.Kind.{Kind}
use Rattle.fk_tree.specs.declared.node.Kind.TheVariants.{Lockstep, Waiting, Asynchronous}
use Rattle.fk_meaning_operation.specs.declared.operation.Operation.{Operation}
use Rattle.fk_meaning_operation.specs.declared.operation.Operation.TheVariants as o
use Rattle.fk_meaning_operation.specs.declared.operation.SplitKind.{SplitKind}
use Rattle.fk_meaning.specs.Processor.{Processor, values}
use Rattle.fk_meaning.specs.Group.{changes, parts, part, stays, not_negative}
use Rattle.fk_replay_trees.specs.Changes.{Needs}

pub eq_false : (a b : ℕ) → a ≢ b → (a == b) ≡ false
eq_false a b ne = by (a == b) refl
  where
    by : (c : Bool) → (a == b) ≡ c → c ≡ false
    by true e = absurd (ne (let same : a ≡ b = grind arith in same))
    by false e = refl

with_false : {A : Type 0} (b : Bool) (x y : A) → b ≡ false → (if b then x else y) ≡ y
with_false true x y e = absurd (let bad : true ≡ false = e in cc)
with_false false x y e = refl

-- ---- other nodes

other_node : (n : ℕ) (node : Option Node) (nodes : ℕ → Option Node) (m : ℕ) → m ≢ n → with_node n node nodes m ≡ nodes m
other_node n node nodes m ne = ap (λ (b : Bool). if b then node else nodes m) (eq_false m n ne)

not_from : (first k m : ℕ) → m < first → is_from first k m ≡ false
not_from first k m lt = ap (λ (b : Bool). b && nat_lt m (first + k)) (let e : nat_le first m ≡ false = grind arith in e)

split_other : (n k : ℕ) (of : ℕ → Option ℕ) (tree : Tree) (m : ℕ) → m ≢ n → m < tree.given → (t.split n k of tree).nodes m ≡ tree.nodes m
split_other n k of tree m ne lt =
    with_false (is_from tree.given k m) _ ((with_kind n (Waiting tree.given k) tree).nodes m) (not_from tree.given k m lt)
    ∙ other_node n (turned (Waiting tree.given k) (tree.nodes n)) tree.nodes m ne

kind_other : (n : ℕ) (kind : Kind) (tree : Tree) (m : ℕ) → m ≢ n → (with_kind n kind tree).nodes m ≡ tree.nodes m
kind_other n kind tree m ne = other_node n (turned kind (tree.nodes n)) tree.nodes m ne

-- a step changes its node alone, and makes nodes with new numbers
pub beside : (operation : Operation) (g : ℕ) (who : ℕ → Processor) (highest low : ℕ) (tree : Tree) (m : ℕ) → (operation ≡ o.Begin → g ≡ 0) → m ≢ g → m < tree.given
    → (changes operation g who highest low tree).nodes m ≡ tree.nodes m
beside o.Begin g who highest low tree m root ne lt =
    split_other 0 1 (t.first_part (min (not_negative highest) (length (t.members tree g)))) tree m (λ e. ne (e ∙ sym (root refl))) lt
beside (o.Split by) g who highest low tree m root ne lt = split_other g (parts by (values (who low))) (λ h. part by (values (who h))) tree m ne lt
beside o.Shrink g who highest low tree m root ne lt = other_node g (left_by (λ h. stays (who h)) (tree.nodes g)) tree.nodes m ne
beside o.End g who highest low tree m root ne lt = other_node g (left_by (λ h. false) (tree.nodes g)) tree.nodes m ne
beside o.Farm g who highest low tree m root ne lt = kind_other g (Asynchronous false) tree m ne
beside o.Seq g who highest low tree m root ne lt = kind_other g (Asynchronous true) tree m ne
beside (o.Meet true) g who highest low tree m root ne lt = kind_other g Lockstep tree m ne
beside o.Resume g who highest low tree m root ne lt = kind_other g (t.kind_after g) tree m ne
beside operation g who highest low tree m root ne lt = refl

-- ---- nodes that have ended

turned_none : (kind : Kind) (node : Option Node) → node ≡ None → turned kind node ≡ None
turned_none kind node e = ap (turned kind) e

left_none : (stay : ℕ → Bool) (node : Option Node) → node ≡ None → left_by stay node ≡ None
left_none stay node e = ap (left_by stay) e

bool_of : (a b : ℕ) → ((a == b) ≡ true) ⊎ ((a == b) ≡ false)
bool_of a b = by (a == b)
  where
    by : (c : Bool) → (c ≡ true) ⊎ (c ≡ false)
    by true = inl refl
    by false = inr refl

node_none : (n m : ℕ) (node : Option Node) (nodes : ℕ → Option Node) → nodes m ≡ None → (nodes n ≡ None → node ≡ None) → with_node n node nodes m ≡ None
node_none n m node nodes ended none = by (bool_of m n)
  where
    by : ((m == n) ≡ true) ⊎ ((m == n) ≡ false) → with_node n node nodes m ≡ None
    by (inl e) =
        let same : m ≡ n = grind arith in
        ap (λ (b : Bool). if b then node else nodes m) e ∙ none (sym (ap nodes same) ∙ ended)
    by (inr e) = ap (λ (b : Bool). if b then node else nodes m) e ∙ ended

split_none : (n k : ℕ) (of : ℕ → Option ℕ) (tree : Tree) (m : ℕ) → m < tree.given → tree.nodes m ≡ None → (t.split n k of tree).nodes m ≡ None
split_none n k of tree m lt ended =
    with_false (is_from tree.given k m) _ ((with_kind n (Waiting tree.given k) tree).nodes m) (not_from tree.given k m lt)
    ∙ node_none n m (turned (Waiting tree.given k) (tree.nodes n)) tree.nodes ended (turned_none (Waiting tree.given k) (tree.nodes n))

pub stays_ended : (operation : Operation) (g : ℕ) (who : ℕ → Processor) (highest low : ℕ) (tree : Tree) (m : ℕ) → m < tree.given → tree.nodes m ≡ None
    → (changes operation g who highest low tree).nodes m ≡ None
stays_ended o.Begin g who highest low tree m lt ended =
    split_none 0 1 (t.first_part (min (not_negative highest) (length (t.members tree g)))) tree m lt ended
stays_ended (o.Split by) g who highest low tree m lt ended = split_none g (parts by (values (who low))) (λ h. part by (values (who h))) tree m lt ended
stays_ended o.Shrink g who highest low tree m lt ended = node_none g m (left_by (λ h. stays (who h)) (tree.nodes g)) tree.nodes ended (left_none (λ h. stays (who h)) (tree.nodes g))
stays_ended o.End g who highest low tree m lt ended = node_none g m (left_by (λ h. false) (tree.nodes g)) tree.nodes ended (left_none (λ h. false) (tree.nodes g))
stays_ended o.Farm g who highest low tree m lt ended = node_none g m (turned (Asynchronous false) (tree.nodes g)) tree.nodes ended (turned_none (Asynchronous false) (tree.nodes g))
stays_ended o.Seq g who highest low tree m lt ended = node_none g m (turned (Asynchronous true) (tree.nodes g)) tree.nodes ended (turned_none (Asynchronous true) (tree.nodes g))
stays_ended (o.Meet true) g who highest low tree m lt ended = node_none g m (turned Lockstep (tree.nodes g)) tree.nodes ended (turned_none Lockstep (tree.nodes g))
stays_ended o.Resume g who highest low tree m lt ended = node_none g m (turned (t.kind_after g) (tree.nodes g)) tree.nodes ended (turned_none (t.kind_after g) (tree.nodes g))
stays_ended operation g who highest low tree m lt ended = ended

-- ---- numbers

pub record GivesFew (old new : Tree) : Type 0 where
  pub low : old.given ≤ new.given
  pub high : new.given ≤ old.given + 2 ^ 18

pub gives_few : (operation : Operation) (g : ℕ) (who : ℕ → Processor) (highest low : ℕ) (tree : Tree) → ((by : SplitKind) → operation ≡ o.Split by → parts by (values (who low)) ≤ 2 ^ 18)
    → GivesFew tree (changes operation g who highest low tree)
gives_few o.Begin g who highest low tree few = record { low = omega arith; high = omega arith }
gives_few (o.Split by) g who highest low tree few = let k = few by refl in record { low = omega arith; high = omega arith }
gives_few o.Shrink g who highest low tree few = record { low = omega arith; high = omega arith }
gives_few o.End g who highest low tree few = record { low = omega arith; high = omega arith }
gives_few o.Farm g who highest low tree few = record { low = omega arith; high = omega arith }
gives_few o.Seq g who highest low tree few = record { low = omega arith; high = omega arith }
gives_few (o.Meet true) g who highest low tree few = record { low = omega arith; high = omega arith }
gives_few o.Resume g who highest low tree few = record { low = omega arith; high = omega arith }
gives_few operation g who highest low tree few = record { low = omega arith; high = omega arith }

-- ---- what a step needs, after the steps of other nodes

-- a node is as it was, and nodes that have ended have not come back
pub record IsAsBefore (old now : Tree) (g : ℕ) : Type 0 where
  pub node : now.nodes g ≡ old.nodes g
  pub ended : (m : ℕ) → m < old.given → old.nodes m ≡ None → now.nodes m ≡ None

and_true : (a b : Bool) → a && b ≡ true → (a ≡ true) × (b ≡ true)
and_true true b f = (refl, f)
and_true false b f = absurd (let bad : false ≡ true = f in cc)

none_of : (node : Option Node) → is_none node ≡ true → node ≡ None
none_of None e = refl
none_of (Some node) e = absurd (let bad : false ≡ true = e in cc)

have_ended_still : (old now : Tree) (first k : ℕ) → ((i : ℕ) → i < k → old.nodes (first + i) ≡ None → now.nodes (first + i) ≡ None) → have_ended old first k ≡ true → have_ended now first k ≡ true
have_ended_still old now first zero still e = refl
have_ended_still old now first (suc k) still e =
    let both = and_true (is_none (old.nodes (first + k))) (have_ended old first k) e in
    ap (λ node. is_none node && have_ended now first k) (still k (omega arith) (none_of (old.nodes (first + k)) both.0))
    ∙ have_ended_still old now first k (λ i lt. still i (omega arith)) both.1

ready_still : (p : ℕ) (old now : Tree) (g : ℕ) → IsSound p old → IsAsBefore old now g → t.ready old g ≡ true → t.ready now g ≡ true
ready_still p old now g sound as_before ready = by (t.kind old g) refl
  where
    same : t.kind now g ≡ t.kind old g
    same = ap t.kind_of as_before.node

    is_part : (first k i : ℕ) → i < k → is_from first k (first + i) ≡ true
    is_part first k i lt = ap (λ (b : Bool). b && nat_lt (first + i) (first + k)) (let e : nat_le first (first + i) ≡ true = grind arith in e) ∙ (let e : nat_lt (first + i) (first + k) ≡ true = grind arith in e)

    at : (k : Option Kind) → t.kind old g ≡ k → t.is_ready old k ≡ true
    at k e = ap (t.is_ready old) (sym e) ∙ ready

    to : (k : Option Kind) → t.kind old g ≡ k → t.is_ready now k ≡ true → t.ready now g ≡ true
    to k e is = ap (t.is_ready now) (same ∙ e) ∙ is

    by : (k : Option Kind) → t.kind old g ≡ k → t.ready now g ≡ true
    by None e = absurd (let bad : false ≡ true = at None e in cc)
    by (Some Lockstep) e = absurd (let bad : false ≡ true = at (Some Lockstep) e in cc)
    by (Some (Asynchronous alone)) e = absurd (let bad : false ≡ true = at (Some (Asynchronous alone)) e in cc)
    by (Some (Waiting first k)) e = to (Some (Waiting first k)) e
        (have_ended_still old now first k
        (λ i lt none. as_before.ended (first + i) (sound.former g (first + i) (ap (λ x. awaits x (first + i)) e ∙ is_part first k i lt)) none) (at (Some (Waiting first k)) e))

pub needs_still : (operation : Operation) (p : ℕ) (old now : Tree) (g : ℕ) → IsSound p old → IsAsBefore old now g → Needs old g operation → Needs now g operation
needs_still o.Begin p old now g sound as_before needs =
    let root = needs.0 in
    (root, ap t.is_waiting (ap t.kind_of (ap now.nodes (sym root) ∙ as_before.node ∙ ap old.nodes root)) ∙ needs.1)
needs_still (o.Split by) p old now g sound as_before needs = ap t.kind_of as_before.node ∙ needs
needs_still o.Shrink p old now g sound as_before needs = ap t.kind_of as_before.node ∙ needs
needs_still o.End p old now g sound as_before needs = ap t.kind_of as_before.node ∙ needs
needs_still o.Farm p old now g sound as_before needs = ap t.kind_of as_before.node ∙ needs
needs_still o.Seq p old now g sound as_before needs = ap t.kind_of as_before.node ∙ needs
needs_still (o.Meet true) p old now g sound as_before needs = record { alone = needs.alone; part = needs.part; body = ap t.kind_of as_before.node ∙ needs.body }
needs_still o.Resume p old now g sound as_before needs = ready_still p old now g sound as_before needs
needs_still operation p old now g sound as_before needs = tt
