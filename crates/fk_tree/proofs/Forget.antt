-- The entries of keys below a number.
use Rattle.std.proofs.Common.{◌≡◌, ⊎_elim, ℕ, ◌≤◌, ◌<◌, nat_lt, nat_eq, Bool, true, false, cond, List, [], ◌∷◌, Option, Some, None, refl, sym, ap, ◌∙◌, arith, filter}
use Rattle.std.specs.Map.{lookup}
use Rattle.std.proofs.lemmas.Bool.{cases_Bool, cond-true, cond-false, eqb-true, ltb-true, lt-ltb}
use Rattle.fk_tree.specs.declared.node.LiveNode.{LiveNode}

abbrev pub Entries : Type 0
Entries = List (ℕ × LiveNode)

abbrev pub is_kept : ℕ → ℕ × LiveNode → Bool
is_kept first e = nat_lt e.0 first

pub lookup-kept : (first i : ℕ) (es : Entries) → i < first → lookup (nat_eq i) (filter (is_kept first) es) ≡ lookup (nat_eq i) es
lookup-kept first i [] lt = refl
lookup-kept first i (e ∷ es) lt =
    let rest = lookup-kept first i es lt in
    ⊎_elim
    (λ in_front.
    ap (λ (xs : Entries). lookup (nat_eq i) xs) (cond-true (is_kept first e) (e ∷ filter (is_kept first) es) (filter (is_kept first) es) in_front)
    ∙ ap (λ (o : Option LiveNode). cond (nat_eq i e.0) (Some e.1) o) rest)
    (λ out.
    let apart : nat_eq i e.0 ≡ false = ⊎_elim
    (λ same. let same' = eqb-true i e.0 same in let in_front : nat_lt e.0 first ≡ true = lt-ltb e.0 first (omega arith) in absurd (cc))
    (λ other. other)
    (cases_Bool (nat_eq i e.0)) in
    ap (λ (xs : Entries). lookup (nat_eq i) xs) (cond-false (is_kept first e) (e ∷ filter (is_kept first) es) (filter (is_kept first) es) out)
    ∙ rest ∙ sym (cond-false (nat_eq i e.0) (Some e.1) (lookup (nat_eq i) es) apart))
    (cases_Bool (is_kept first e))

pub lookup-dropped : (first i : ℕ) (es : Entries) → first ≤ i → lookup (nat_eq i) (filter (is_kept first) es) ≡ None
lookup-dropped first i [] le = refl
lookup-dropped first i (e ∷ es) le =
    let rest = lookup-dropped first i es le in
    ⊎_elim
    (λ in_front.
    let apart : nat_eq i e.0 ≡ false = ⊎_elim
    (λ same. let same' = eqb-true i e.0 same in let lt = ltb-true e.0 first in_front in absurd (omega arith))
    (λ other. other)
    (cases_Bool (nat_eq i e.0)) in
    ap (λ (xs : Entries). lookup (nat_eq i) xs) (cond-true (is_kept first e) (e ∷ filter (is_kept first) es) (filter (is_kept first) es) in_front)
    ∙ cond-false (nat_eq i e.0) (Some e.1) (lookup (nat_eq i) (filter (is_kept first) es)) apart ∙ rest)
    (λ out.
    ap (λ (xs : Entries). lookup (nat_eq i) xs) (cond-false (is_kept first e) (e ∷ filter (is_kept first) es) (filter (is_kept first) es) out) ∙ rest)
    (cases_Bool (is_kept first e))
