-- What the steps make of the node of each number.
use Rattle.std.proofs.Common.{◌≡◌, ◌≢◌, ⊎_elim, ℕ, ◌+◌, ◌≤◌, ◌<◌, ◌==◌, nat_lt, nat_le, true, false, List, [], ◌∷◌, Option, Some, None, refl, sym, ap, ◌∙◌, arith}
use Rattle.std.proofs.lemmas.Bool.{cases_Bool, cases_eq, cases_lt, and_parts, and_from, and_left, cond-true, cond-false, eq-eqb, ne_eqb, ltb-true, leb-true, lt-ltb, le-leb, lt-leb, false≢true}
use Rattle.fk_tree.specs.declared.node.Kind.{Kind}
use Rattle.fk_tree.specs.declared.node.Kind.TheVariants.{Lockstep}
use Rattle.fk_tree.specs.Tree.{Node, Tree, members_of, parent_of, kind_of, members, parent, kind, is_member, node_of, with_node, turned, with_kind, is_from}
use Rattle.fk_tree.specs.Sound.{Has, awaits, IsSound}

pub with_same : (n : ℕ) (x : Option Node) (nodes : ℕ → Option Node) (i : ℕ) → i ≡ n → with_node n x nodes i ≡ x
with_same n x nodes i e = cond-true (i == n) x (nodes i) (eq-eqb i n e)

pub with_other : (n : ℕ) (x : Option Node) (nodes : ℕ → Option Node) (i : ℕ) → i ≢ n → with_node n x nodes i ≡ nodes i
with_other n x nodes i ne = cond-false (i == n) x (nodes i) (ne_eqb i n ne)

pub members-node_of : (ms : List ℕ) (q : ℕ) (k : Kind) → members_of (node_of ms q k) ≡ ms
members-node_of [] q k = refl
members-node_of (m ∷ ms) q k = refl

pub parent-node_of : (ms : List ℕ) (q : ℕ) (k : Kind) → node_of ms q k ≢ None → parent_of (node_of ms q k) ≡ q
parent-node_of [] q k some = absurd (some refl)
parent-node_of (m ∷ ms) q k some = refl

pub kind-node_of : (ms : List ℕ) (q : ℕ) (k : Kind) → node_of ms q k ≢ None → kind_of (node_of ms q k) ≡ Some k
kind-node_of [] q k some = absurd (some refl)
kind-node_of (m ∷ ms) q k some = refl

pub awaits-node_of : (ms : List ℕ) (q m : ℕ) → awaits (kind_of (node_of ms q Lockstep)) m ≡ false
awaits-node_of [] q m = refl
awaits-node_of (h ∷ hs) q m = refl

pub none-node_of : (ms : List ℕ) (q : ℕ) (k : Kind) → ms ≡ [] → node_of ms q k ≡ None
none-node_of [] q k e = refl
none-node_of (m ∷ ms) q k e = cc

pub members-turned : (k : Kind) (o : Option Node) → members_of (turned k o) ≡ members_of o
members-turned k None = refl
members-turned k (Some a) = refl

pub parent-turned : (k : Kind) (o : Option Node) → parent_of (turned k o) ≡ parent_of o
parent-turned k None = refl
parent-turned k (Some a) = refl

pub kind-turned : (k : Kind) (o : Option Node) → o ≢ None → kind_of (turned k o) ≡ Some k
kind-turned k None some = absurd (some refl)
kind-turned k (Some a) some = refl

pub turned-none : (k : Kind) (o : Option Node) → turned k o ≡ None → o ≡ None
turned-none k None e = refl
turned-none k (Some a) e = cc

pub none-turned : (k : Kind) (o : Option Node) → o ≡ None → turned k o ≡ None
none-turned k None e = refl
none-turned k (Some a) e = cc

-- another kind changes no members and no parent, and ends no node
pub kind_members : (n : ℕ) (k : Kind) (t : Tree) (i : ℕ) → members (with_kind n k t) i ≡ members t i
kind_members n k t i =
    ⊎_elim
    (λ e. ap members_of (with_same n (turned k (t.nodes n)) t.nodes i e) ∙ members-turned k (t.nodes n) ∙ ap (members t) (sym e))
    (λ ne. ap members_of (with_other n (turned k (t.nodes n)) t.nodes i ne))
    (cases_eq i n)

pub kind_parent : (n : ℕ) (k : Kind) (t : Tree) (i : ℕ) → parent (with_kind n k t) i ≡ parent t i
kind_parent n k t i =
    ⊎_elim
    (λ e. ap parent_of (with_same n (turned k (t.nodes n)) t.nodes i e) ∙ parent-turned k (t.nodes n) ∙ ap (parent t) (sym e))
    (λ ne. ap parent_of (with_other n (turned k (t.nodes n)) t.nodes i ne))
    (cases_eq i n)

pub kind_none : (n : ℕ) (k : Kind) (t : Tree) (i : ℕ) → t.nodes i ≡ None → (with_kind n k t).nodes i ≡ None
kind_none n k t i none =
    ⊎_elim
    (λ e. with_same n (turned k (t.nodes n)) t.nodes i e ∙ none-turned k (t.nodes n) (ap t.nodes (sym e) ∙ none))
    (λ ne. with_other n (turned k (t.nodes n)) t.nodes i ne ∙ none)
    (cases_eq i n)

pub kind_some : (n : ℕ) (k : Kind) (t : Tree) (i : ℕ) → (with_kind n k t).nodes i ≢ None → t.nodes i ≢ None
kind_some n k t i some none = some (kind_none n k t i none)

pub kind_same : (n : ℕ) (k : Kind) (t : Tree) → t.nodes n ≢ None → kind (with_kind n k t) n ≡ Some k
kind_same n k t some = ap kind_of (with_same n (turned k (t.nodes n)) t.nodes n refl) ∙ kind-turned k (t.nodes n) some

pub kind_other : (n : ℕ) (k : Kind) (t : Tree) (i : ℕ) → i ≢ n → kind (with_kind n k t) i ≡ kind t i
kind_other n k t i ne = ap kind_of (with_other n (turned k (t.nodes n)) t.nodes i ne)

-- numbers from one on
pub from_parts : (first k i : ℕ) → is_from first k i ≡ true → (first ≤ i) × (i < first + k)
from_parts first k i e =
    let parts = and_parts (nat_le first i) (nat_lt i (first + k)) e in (leb-true first i parts.0, ltb-true i (first + k) parts.1)

pub from_within : (first k i : ℕ) → first ≤ i → i < first + k → is_from first k i ≡ true
from_within first k i low high = and_from (nat_le first i) (nat_lt i (first + k)) (le-leb first i low) (lt-ltb i (first + k) high)

pub from_below : (first k i : ℕ) → i < first → is_from first k i ≡ false
from_below first k i lt = and_left (nat_le first i) (nat_lt i (first + k)) (lt-leb first i lt)

pub from_above : (first k i : ℕ) → first + k ≤ i → is_from first k i ≡ false
from_above first k i le =
    ⊎_elim (λ e. let parts = from_parts first k i e in absurd (omega (arith, parts.1))) (λ e. e) (cases_Bool (is_from first k i))

pub has_some : (t : Tree) (n h : ℕ) → Has t n h → t.nodes n ≢ None
has_some t n h has none = false≢true (sym (ap (λ (o : Option Node). is_member h (members_of o)) none) ∙ has)

pub has_along : (h : ℕ) (xs ys : List ℕ) → xs ≡ ys → is_member h xs ≡ true → is_member h ys ≡ true
has_along h xs ys e has = sym (ap (is_member h) e) ∙ has

-- a node that is there has a number that was given
pub some-given : (p : ℕ) (t : Tree) → IsSound p t → (n : ℕ) → t.nodes n ≢ None → n < t.given
some-given p t s n some = ⊎_elim (λ lt. lt) (λ le. absurd (some (s.numbered n le))) (cases_lt n t.given)

awaits_none : (o : Option Node) (m : ℕ) → awaits (kind_of o) m ≡ true → o ≢ None
awaits_none None m e none = false≢true e
awaits_none (Some a) m e none = cc

pub awaits-some : (t : Tree) (n m : ℕ) → awaits (kind t n) m ≡ true → t.nodes n ≢ None
awaits-some t n m e = awaits_none (t.nodes n) m e
