-- How many of some processors have a property.
use Rattle.std.proofs.Common.{◌≡◌, ◌≢◌, ◌⊎◌, inl, inr, ℕ, suc, ◌+◌, ◌<◌, ◌≤◌, ◌==◌, ◌||◌, Bool, true, false, List, [], ◌∷◌, length, refl, sym, ap, ◌∙◌, arith, if◌then◌else◌}
use Rattle.std.proofs.lemmas.Bool.{and_parts, eqb-true, eq-eqb}
use Rattle.fk_tree.specs.Tree.{is_member}
use Rattle.fk_tree.specs.Sound.{is_ascending, is_below_all}
use Rattle.fk_tree.proofs.Lists.{below_all-member}
use Rattle.fk_replay_able.specs.Known.{number_of}
use Rattle.fk_replay_able.proofs.Able.{untrue}

abbrev pub one_if : Bool → ℕ
one_if b = if b then 1 else 0

pub first_member : (m : ℕ) (ms : List ℕ) → is_member m (m ∷ ms) ≡ true
first_member m ms = ap (λ (b : Bool). b || is_member m ms) (eq-eqb m m refl)

pub later_member : (x m : ℕ) (ms : List ℕ) → is_member m ms ≡ true → is_member m (x ∷ ms) ≡ true
later_member x m ms is = by (m == x)
  where
    by : (b : Bool) → (b || is_member m ms) ≡ true
    by true = refl
    by false = is

pub either_member : (x m : ℕ) (ms : List ℕ) → is_member m (x ∷ ms) ≡ true → (m ≡ x) ⊎ (is_member m ms ≡ true)
either_member x m ms is = by (m == x) refl is
  where
    by : (b : Bool) → (m == x) ≡ b → (b || is_member m ms) ≡ true → (m ≡ x) ⊎ (is_member m ms ≡ true)
    by true e is = inl (eqb-true m x e)
    by false e is = inr is

pub sums : (f g k : ℕ → Bool) (ms : List ℕ) → ((m : ℕ) → is_member m ms ≡ true → one_if (f m) + one_if (g m) ≡ one_if (k m)) → number_of f ms + number_of g ms ≡ number_of k ms
sums f g k [] each = refl
sums f g k (m ∷ ms) each =
    let here = each m (first_member m ms) in
    let rest = sums f g k ms (λ i is. each i (later_member m i ms is)) in
    omega (arith, here, rest)

pub none_has : (f : ℕ → Bool) (ms : List ℕ) → ((m : ℕ) → is_member m ms ≡ true → f m ≡ false) → number_of f ms ≡ 0
none_has f [] each = refl
none_has f (m ∷ ms) each =
    let here : one_if (f m) ≡ 0 = ap one_if (each m (first_member m ms)) in
    let rest = none_has f ms (λ i is. each i (later_member m i ms is)) in
    omega (arith, here, rest)

pub same_number : (f g : ℕ → Bool) (ms : List ℕ) → ((m : ℕ) → is_member m ms ≡ true → f m ≡ g m) → number_of f ms ≡ number_of g ms
same_number f g [] each = refl
same_number f g (m ∷ ms) each =
    let here : one_if (f m) ≡ one_if (g m) = ap one_if (each m (first_member m ms)) in
    let rest = same_number f g ms (λ i is. each i (later_member m i ms is)) in
    omega (arith, here, rest)

pub at_most : (f : ℕ → Bool) (ms : List ℕ) → number_of f ms ≤ length ms
at_most f [] = omega arith
at_most f (m ∷ ms) = let rest = at_most f ms in by (f m) rest
  where
    by : (b : Bool) → number_of f ms ≤ length ms → one_if b + number_of f ms ≤ suc (length ms)
    by true rest = omega arith
    by false rest = omega arith

pub all_have : (f : ℕ → Bool) (ms : List ℕ) → ((m : ℕ) → is_member m ms ≡ true → f m ≡ true) → number_of f ms ≡ length ms
all_have f [] each = refl
all_have f (m ∷ ms) each =
    let here : one_if (f m) ≡ 1 = ap one_if (each m (first_member m ms)) in
    let rest = all_have f ms (λ i is. each i (later_member m i ms is)) in
    omega (arith, here, rest)

pub each_has : (f : ℕ → Bool) (ms : List ℕ) → number_of f ms ≡ length ms → (m : ℕ) → is_member m ms ≡ true → f m ≡ true
each_has f [] e m is = untrue is
each_has f (x ∷ ms) e m is = by (f x) refl (either_member x m ms is) (λ rest later. each_has f ms rest m later)
  where
    by : (b : Bool) → f x ≡ b → (m ≡ x) ⊎ (is_member m ms ≡ true) → (number_of f ms ≡ length ms → is_member m ms ≡ true → f m ≡ true) → f m ≡ true
    by true has (inl same) more = ap f same ∙ has
    by true has (inr later) more =
        let here : one_if (f x) ≡ 1 = ap one_if has in
        more (omega (arith, here, e)) later
    by false has there more =
        let here : one_if (f x) ≡ 0 = ap one_if has in
        let most = at_most f ms in
        absurd (omega (arith, here, e, most))

-- if the number isn't 0, somebody has it
pub some_has : (f : ℕ → Bool) (ms : List ℕ) → number_of f ms ≢ 0 → (m : ℕ) × (is_member m ms ≡ true) × (f m ≡ true)
some_has f [] ne = absurd (ne refl)
some_has f (x ∷ ms) ne = by (f x) refl (λ rest. some_has f ms rest)
  where
    by : (b : Bool) → f x ≡ b → (number_of f ms ≢ 0 → (m : ℕ) × (is_member m ms ≡ true) × (f m ≡ true)) → (m : ℕ) × (is_member m (x ∷ ms) ≡ true) × (f m ≡ true)
    by true has later = (x, first_member x ms, has)
    by false has later =
        let here : one_if (f x) ≡ 0 = ap one_if has in
        let more = later (λ none. ne (omega (arith, here, none))) in
        (more.0, later_member x more.0 ms more.1, more.2)

-- if one of them loses it, there is one less
pub one_less : (f g : ℕ → Bool) (h : ℕ) (ms : List ℕ) → is_ascending ms ≡ true → is_member h ms ≡ true → f h ≡ false → g h ≡ true
    → ((m : ℕ) → m ≢ h → f m ≡ g m) → suc (number_of f ms) ≡ number_of g ms
one_less f g h [] up is off on others = untrue is
one_less f g h (x ∷ ms) up is off on others = by (either_member x h ms is) (λ rises later. one_less f g h ms rises later off on others)
  where
    parts : (is_below_all x ms ≡ true) × (is_ascending ms ≡ true)
    parts = and_parts (is_below_all x ms) (is_ascending ms) up

    above : (m : ℕ) → is_member m ms ≡ true → x < m
    above m later = below_all-member x ms m parts.0 later

    by : (h ≡ x) ⊎ (is_member h ms ≡ true) → (is_ascending ms ≡ true → is_member h ms ≡ true → suc (number_of f ms) ≡ number_of g ms)
        → suc (number_of f (x ∷ ms)) ≡ number_of g (x ∷ ms)
    by (inl same) more =
        let lost : one_if (f x) ≡ 0 = ap one_if (ap f (sym same) ∙ off) in
        let had : one_if (g x) ≡ 1 = ap one_if (ap g (sym same) ∙ on) in
        let rest = same_number f g ms (λ m later. others m (λ e. let lt = above m later in omega (arith, lt, e, same))) in
        omega (arith, lost, had, rest)
    by (inr later) more =
        let lt = above h later in
        let here : one_if (f x) ≡ one_if (g x) = ap one_if (others x (λ e. omega (arith, lt, e))) in
        let rest = more parts.1 later in
        omega (arith, here, rest)
