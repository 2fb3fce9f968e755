-- How many parts of a node have not ended.
use Rattle.std.proofs.Common.{◌≡◌, ◌≢◌, ⊎_elim, ℕ, zero, suc, ◌+◌, ◌≤◌, ◌<◌, ◌==◌, Bool, true, false, ◌&&◌, cond, Option, Some, None, is_none, refl, sym, ap, ◌∙◌, arith}
use Rattle.std.proofs.lemmas.Bool.{cases_Bool, cases_eq, cond-true, cond-false, eq-eqb, ne_eqb}
use Rattle.fk_tree.specs.declared.node.Kind.{Kind}
use Rattle.fk_tree.specs.declared.node.Kind.TheVariants.{Lockstep, Waiting, Asynchronous}
use Rattle.fk_tree.specs.Tree.{Node, Tree, kind_of, kind, turned, with_kind, have_ended}
use Rattle.fk_tree.specs.Sound.{awaits}
use Rattle.fk_tree.specs.Seen.{living_parts, count_of, AreCounted}
use Rattle.fk_tree.proofs.Shapes.{from_within, with_same, with_other, kind-turned}

abbrev one_if : Bool → ℕ
one_if none = cond none 0 1

pub living_same : (f g : ℕ → Option Node) (first k : ℕ) → ((i : ℕ) → first ≤ i → i < first + k → is_none (f i) ≡ is_none (g i)) → living_parts f first k ≡ living_parts g first k
living_same f g first zero same = refl
living_same f g first (suc k) same =
    let here = same (first + k) (omega arith) (omega arith) in
    let rest = living_same f g first k (λ i low high. same i low (omega arith)) in
    cc

pub living_added : (f g : ℕ → Option Node) (first k m : ℕ) → is_none (f m) ≡ true → is_none (g m) ≡ false → ((i : ℕ) → i ≢ m → is_none (f i) ≡ is_none (g i))
    → first ≤ m → m < first + k → living_parts g first k ≡ suc (living_parts f first k)
living_added f g first zero m none some same low high = absurd (omega arith)
living_added f g first (suc k) m none some same low high =
    ⊎_elim
    (λ e.
    let rest : living_parts f first k ≡ living_parts g first k = living_same f g first k (λ i low' high'. same i (omega arith)) in
    let f-one : one_if (is_none (f (first + k))) ≡ 0 = ap (λ (i : ℕ). one_if (is_none (f i))) (sym e) ∙ ap one_if none in
    let g-one : one_if (is_none (g (first + k))) ≡ 1 = ap (λ (i : ℕ). one_if (is_none (g i))) (sym e) ∙ ap one_if some in
    omega arith)
    (λ ne.
    let rest = living_added f g first k m none some same low (omega arith) in
    let here : one_if (is_none (f (first + k))) ≡ one_if (is_none (g (first + k))) = ap one_if (same (first + k) (λ e. ne (sym e))) in
    omega arith)
    (cases_eq m (first + k))

pub have_ended-living : (t : Tree) (first k : ℕ) → have_ended t first k ≡ (living_parts t.nodes first k == 0)
have_ended-living t first zero = refl
have_ended-living t first (suc k) =
    ⊎_elim
    (λ none.
    let zero_more : one_if (is_none (t.nodes (first + k))) + living_parts t.nodes first k ≡ living_parts t.nodes first k = let e = ap one_if none in omega arith in
    ap (λ (b : Bool). b && have_ended t first k) none ∙ have_ended-living t first k ∙ ap (λ (n : ℕ). n == 0) (sym zero_more))
    (λ some.
    let more : one_if (is_none (t.nodes (first + k))) + living_parts t.nodes first k ≢ 0 = let e = ap one_if some in omega arith in
    ap (λ (b : Bool). b && have_ended t first k) some ∙ sym (ne_eqb (one_if (is_none (t.nodes (first + k))) + living_parts t.nodes first k) 0 more))
    (cases_Bool (is_none (t.nodes (first + k))))

-- a count stays where the same of the awaited parts have ended
pub count_along : (f g : ℕ → Option Node) (o : Option Kind) → ((m : ℕ) → awaits o m ≡ true → is_none (f m) ≡ is_none (g m)) → count_of f o ≡ count_of g o
count_along f g None same = refl
count_along f g (Some Lockstep) same = refl
count_along f g (Some (Waiting first k)) same = living_same f g first k (λ i low high. same i (from_within first k i low high))
count_along f g (Some (Asynchronous alone)) same = refl

none-turned : (k : Kind) (o : Option Node) → is_none (turned k o) ≡ is_none o
none-turned k None = refl
none-turned k (Some a) = refl

pub kind_is_none : (n : ℕ) (k : Kind) (t : Tree) (i : ℕ) → is_none ((with_kind n k t).nodes i) ≡ is_none (t.nodes i)
kind_is_none n k t i =
    ⊎_elim
    (λ e. ap is_none (with_same n (turned k (t.nodes n)) t.nodes i e) ∙ none-turned k (t.nodes n) ∙ ap (λ (j : ℕ). is_none (t.nodes j)) (sym e))
    (λ ne. ap is_none (with_other n (turned k (t.nodes n)) t.nodes i ne))
    (cases_eq i n)

-- a node that is given another kind, and its count
pub kind_counted : (n living : ℕ) (k : Kind) (t : Tree) (counts counts' : ℕ → ℕ) → t.nodes n ≢ None → AreCounted t.nodes counts
    → ((i : ℕ) → counts' i ≡ cond (i == n) living (counts i)) → living ≡ count_of t.nodes (Some k) → AreCounted (with_kind n k t).nodes counts'
kind_counted n living k t counts counts' some counted changed here i =
    let along : (o : Option Kind) → count_of t.nodes o ≡ count_of (with_kind n k t).nodes o =
    λ o. count_along t.nodes (with_kind n k t).nodes o (λ m w. sym (kind_is_none n k t m)) in
    ⊎_elim
    (λ e.
    changed i ∙ cond-true (i == n) living (counts i) (eq-eqb i n e) ∙ here ∙ along (Some k)
    ∙ ap (count_of (with_kind n k t).nodes) (sym (ap kind_of (with_same n (turned k (t.nodes n)) t.nodes i e) ∙ kind-turned k (t.nodes n) some)))
    (λ ne.
    changed i ∙ cond-false (i == n) living (counts i) (ne_eqb i n ne) ∙ counted i ∙ along (kind t i)
    ∙ ap (count_of (with_kind n k t).nodes) (sym (ap kind_of (with_other n (turned k (t.nodes n)) t.nodes i ne))))
    (cases_eq i n)
