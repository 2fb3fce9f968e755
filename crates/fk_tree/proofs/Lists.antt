-- Members of lists, and lists in ascending order.
use Rattle.std.proofs.Common.{◌≡◌, ◌≢◌, ◌⊎◌, inl, inr, ⊎_elim, ℕ, zero, suc, ◌+◌, ◌-◌, ◌≤◌, ◌<◌, ◌==◌, nat_lt, Bool, true, false, List, [], ◌∷◌, ◌++◌, length, get_or, refl, sym, ap, ◌∙◌, subst, arith, filter}
use Rattle.std.proofs.lemmas.Bool.{cases_Bool, cases_eq, and_parts, and_from, or_cases, or_left, or_right, cond-true, cond-false, eqb-true, eq-eqb, ne_eqb, ltb-true, lt-ltb, false≢true}
use Rattle.fk_tree.specs.Tree.{is_member, below, told}
use Rattle.fk_tree.specs.Sound.{is_below_all, is_ascending}

pub impossible : {P : Type 0} (b : Bool) → b ≡ true → b ≡ false → P
impossible b t f = absurd (false≢true (sym f ∙ t))

pub member_kept : (p : ℕ → Bool) (xs : List ℕ) (h : ℕ) → is_member h xs ≡ true → p h ≡ true → is_member h (filter p xs) ≡ true
member_kept p [] h is pass = is
member_kept p (x ∷ xs) h is pass =
    ⊎_elim
    (λ e.
    let same : h ≡ x = eqb-true h x e in
    let px : p x ≡ true = subst (λ (y : ℕ). p y ≡ true) same pass in
    ap (is_member h) (cond-true (p x) (x ∷ filter p xs) (filter p xs) px) ∙ or_left (h == x) (is_member h (filter p xs)) e)
    (λ e.
    let rest = member_kept p xs h e pass in
    ⊎_elim
    (λ px. ap (is_member h) (cond-true (p x) (x ∷ filter p xs) (filter p xs) px) ∙ or_right (h == x) (is_member h (filter p xs)) rest)
    (λ px. ap (is_member h) (cond-false (p x) (x ∷ filter p xs) (filter p xs) px) ∙ rest)
    (cases_Bool (p x)))
    (or_cases (h == x) (is_member h xs) is)

pub kept_member : (p : ℕ → Bool) (xs : List ℕ) (h : ℕ) → is_member h (filter p xs) ≡ true → (is_member h xs ≡ true) × (p h ≡ true)
kept_member p [] h is = absurd (false≢true is)
kept_member p (x ∷ xs) h is =
    ⊎_elim
    (λ px.
    let is' : is_member h (x ∷ filter p xs) ≡ true = sym (ap (is_member h) (cond-true (p x) (x ∷ filter p xs) (filter p xs) px)) ∙ is in
    ⊎_elim
    (λ e. (or_left (h == x) (is_member h xs) e, subst (λ (y : ℕ). p y ≡ true) (sym (eqb-true h x e)) px))
    (λ e. let r = kept_member p xs h e in (or_right (h == x) (is_member h xs) r.0, r.1))
    (or_cases (h == x) (is_member h (filter p xs)) is'))
    (λ px.
    let r = kept_member p xs h (sym (ap (is_member h) (cond-false (p x) (x ∷ filter p xs) (filter p xs) px)) ∙ is) in
    (or_right (h == x) (is_member h xs) r.0, r.1))
    (cases_Bool (p x))

pub below_all_kept : (p : ℕ → Bool) (h : ℕ) (xs : List ℕ) → is_below_all h xs ≡ true → is_below_all h (filter p xs) ≡ true
below_all_kept p h [] is = is
below_all_kept p h (x ∷ xs) is =
    let parts = and_parts (nat_lt h x) (is_below_all h xs) is in
    let rest = below_all_kept p h xs parts.1 in
    ⊎_elim
    (λ px. ap (is_below_all h) (cond-true (p x) (x ∷ filter p xs) (filter p xs) px) ∙ and_from (nat_lt h x) (is_below_all h (filter p xs)) parts.0 rest)
    (λ px. ap (is_below_all h) (cond-false (p x) (x ∷ filter p xs) (filter p xs) px) ∙ rest)
    (cases_Bool (p x))

pub ascending_kept : (p : ℕ → Bool) (xs : List ℕ) → is_ascending xs ≡ true → is_ascending (filter p xs) ≡ true
ascending_kept p [] is = is
ascending_kept p (x ∷ xs) is =
    let parts = and_parts (is_below_all x xs) (is_ascending xs) is in
    let rest = ascending_kept p xs parts.1 in
    ⊎_elim
    (λ px. ap is_ascending (cond-true (p x) (x ∷ filter p xs) (filter p xs) px)
    ∙ and_from (is_below_all x (filter p xs)) (is_ascending (filter p xs)) (below_all_kept p x xs parts.0) rest)
    (λ px. ap is_ascending (cond-false (p x) (x ∷ filter p xs) (filter p xs) px) ∙ rest)
    (cases_Bool (p x))

pub below_all-member : (g : ℕ) (xs : List ℕ) (h : ℕ) → is_below_all g xs ≡ true → is_member h xs ≡ true → g < h
below_all-member g [] h all is = absurd (false≢true is)
below_all-member g (x ∷ xs) h all is =
    let parts = and_parts (nat_lt g x) (is_below_all g xs) all in
    ⊎_elim
    (λ e. subst (λ (y : ℕ). g < y) (sym (eqb-true h x e)) (ltb-true g x parts.0))
    (λ e. below_all-member g xs h parts.1 e)
    (or_cases (h == x) (is_member h xs) is)

pub member_at : (xs : List ℕ) (i : ℕ) → i < length xs → is_member (get_or xs i 0) xs ≡ true
member_at [] i lt = absurd (omega arith)
member_at (x ∷ xs) zero lt = or_left (x == x) (is_member x xs) (eq-eqb x x refl)
member_at (x ∷ xs) (suc i) lt = or_right (get_or xs i 0 == x) (is_member (get_or xs i 0) xs) (member_at xs i (omega arith))

-- what is told of the member at an index
pub told_at : {A : Type 0} (other : A) (ms : List ℕ) (xs : List A) (i : ℕ) → is_ascending ms ≡ true → i < length ms → i < length xs
    → told other ms xs (get_or ms i 0) ≡ get_or xs i other
told_at other [] xs i up lt lt' = absurd (omega arith)
told_at other (m ∷ ms) [] i up lt lt' = absurd (omega arith)
told_at other (m ∷ ms) (x ∷ xs) zero up lt lt' = cond-true (m == m) x (told other ms xs m) (eq-eqb m m refl)
told_at other (m ∷ ms) (x ∷ xs) (suc i) up lt lt' =
    let parts = and_parts (is_below_all m ms) (is_ascending ms) up in
    let i-lt : i < length ms = omega arith in
    let above : m < get_or ms i 0 = below_all-member m ms (get_or ms i 0) parts.0 (member_at ms i i-lt) in
    let apart : get_or ms i 0 ≢ m = omega arith in
    cond-false (get_or ms i 0 == m) x (told other ms xs (get_or ms i 0)) (ne_eqb (get_or ms i 0) m apart)
    ∙ told_at other ms xs i parts.1 i-lt (omega arith)

-- the numbers below p
pub length-below : (p : ℕ) (more : List ℕ) → length (below p more) ≡ p + length more
length-below zero more = omega arith
length-below (suc p) more = length-below p (p ∷ more) ∙ omega arith

pub below-append : (p : ℕ) (xs ys : List ℕ) → below p xs ++ ys ≡ below p (xs ++ ys)
below-append zero xs ys = refl
below-append (suc p) xs ys = below-append p (p ∷ xs) ys

pub below_more : (p : ℕ) → below (p + 1) [] ≡ below p [] ++ p ∷ []
below_more p = let e : p + 1 ≡ suc p = omega arith in ap (λ n. below n []) e ∙ sym (below-append p [] (p ∷ []))

pub below-has_more : (p h : ℕ) (more : List ℕ) → is_member h more ≡ true → is_member h (below p more) ≡ true
below-has_more zero h more is = is
below-has_more (suc p) h more is = below-has_more p h (p ∷ more) (or_right (h == p) (is_member h more) is)

pub below-has : (p h : ℕ) (more : List ℕ) → h < p → is_member h (below p more) ≡ true
below-has zero h more lt = absurd (omega arith)
below-has (suc p) h more lt =
    ⊎_elim
    (λ e. below-has_more p h (p ∷ more) (or_left (h == p) (is_member h more) (eq-eqb h p e)))
    (λ ne. below-has p h (p ∷ more) (omega arith))
    (cases_eq h p)

pub has-below : (p h : ℕ) (more : List ℕ) → is_member h (below p more) ≡ true → (h < p) ⊎ (is_member h more ≡ true)
has-below zero h more is = inr is
has-below (suc p) h more is =
    ⊎_elim
    (λ lt. let lt' : h < suc p = omega arith in inl lt')
    (λ m. ⊎_elim (λ e. let same = eqb-true h p e in let lt : h < suc p = omega arith in inl lt) (λ rest. inr rest) (or_cases (h == p) (is_member h more) m))
    (has-below p h (p ∷ more) is)

below_all-from : (q p : ℕ) (xs : List ℕ) → q ≤ p → is_below_all p xs ≡ true → is_below_all q xs ≡ true
below_all-from q p [] le is = is
below_all-from q p (x ∷ xs) le is =
    let parts = and_parts (nat_lt p x) (is_below_all p xs) is in
    let lt : p < x = ltb-true p x parts.0 in
    and_from (nat_lt q x) (is_below_all q xs) (lt-ltb q x (omega arith)) (below_all-from q p xs le parts.1)

pub ascending-below : (p : ℕ) (more : List ℕ) → is_ascending more ≡ true → ((q : ℕ) → q < p → is_below_all q more ≡ true) → is_ascending (below p more) ≡ true
ascending-below zero more up all = up
ascending-below (suc p) more up all =
    let here : is_below_all p more ≡ true = all p (omega arith) in
    ascending-below p (p ∷ more) (and_from (is_below_all p more) (is_ascending more) here up)
    (λ q lt. and_from (nat_lt q p) (is_below_all q more) (lt-ltb q p lt) (below_all-from q p more (omega arith) here))

-- numbers in ascending order from q on and below p are at most p - q
pub length-between : (q p : ℕ) (xs : List ℕ) → is_ascending xs ≡ true → ((h : ℕ) → is_member h xs ≡ true → (q ≤ h) × (h < p)) → length xs ≤ p - q
length-between q p [] up all = omega arith
length-between q p (x ∷ xs) up all =
    let parts = and_parts (is_below_all x xs) (is_ascending xs) up in
    let here = all x (or_left (x == x) (is_member x xs) (eq-eqb x x refl)) in
    let rest : length xs ≤ p - (x + 1) =
    length-between (x + 1) p xs parts.1
    (λ h is. let above = below_all-member x xs h parts.0 is in let was = all h (or_right (h == x) (is_member h xs) is) in (omega arith, was.1)) in
    omega (arith, here.0, here.1)
