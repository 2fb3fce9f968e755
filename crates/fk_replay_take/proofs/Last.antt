-- The last processor of a round.
use Rattle.std.proofs.Common.{◌≡◌, ℕ, zero, suc, ◌+◌, ◌-◌, ◌<◌, ◌≤◌, true, false, List, [], ◌∷◌, length, Some, None, ap, refl, sym, ◌∙◌, arith}
use Rattle.std.specs.Prelude.{◌==◌, slice_index, slice_get}
use Rattle.fk_meaning.specs.Round.{Round}
use Rattle.fk_replay_phases.specs.Present.{present, numbers_of}
use Rattle.fk_replay_phases.specs.declared.acting.Acting.{Acting}
use Rattle.fk_replay_take.specs.Taken.{is_last_of}

none_present : (n : ℕ) (xs : Round) (g : ℕ) → present n xs ≡ [] → slice_index xs g ≡ 0
none_present n [] zero e = refl
none_present n [] (suc g) e = refl
none_present n (zero ∷ xs) zero e = refl
none_present n (zero ∷ xs) (suc g) e = none_present (suc n) xs g e
none_present n (suc c ∷ xs) g e = absurd (let bad : n ∷ present (suc n) xs ≡ [] = e in cc)

-- the last number of a list is not below its first number
last_from : (p n : ℕ) (xs : Round) → is_last_of p (present n xs) ≡ true → n ≤ p
last_from p n [] e = absurd (let bad : false ≡ true = e in cc)
last_from p n (zero ∷ xs) e = let le = last_from p (suc n) xs e in omega arith
last_from p n (suc c ∷ xs) e = by_rest (present (suc n) xs) refl (λ is. last_from p (suc n) xs is)
  where
    by_rest : (ns : List ℕ) → present (suc n) xs ≡ ns → (is_last_of p (present (suc n) xs) ≡ true → suc n ≤ p) → n ≤ p
    by_rest [] f more = let same : (n == p) ≡ true = sym (ap (λ (ms : List ℕ). is_last_of p (n ∷ ms)) f) ∙ e in let is : n ≡ p = grind arith in omega arith
    by_rest (m ∷ ms) f more = let le = more (ap (is_last_of p) f ∙ sym (ap (λ (ks : List ℕ). is_last_of p (n ∷ ks)) f) ∙ e) in omega arith

pub behind_last : (p n : ℕ) (xs : Round) (g : ℕ) → is_last_of p (present n xs) ≡ true → p < n + g → slice_index xs g ≡ 0
behind_last p n [] zero e lt = refl
behind_last p n [] (suc g) e lt = refl
behind_last p n (zero ∷ xs) zero e lt = refl
behind_last p n (zero ∷ xs) (suc g) e lt = behind_last p (suc n) xs g e (omega arith)
behind_last p n (suc c ∷ xs) zero e lt = let le = last_from p n (suc c ∷ xs) e in absurd (let z : ⊥ = omega arith in z)
behind_last p n (suc c ∷ xs) (suc g) e lt = by_rest (present (suc n) xs) refl (λ is. behind_last p (suc n) xs g is (omega arith))
  where
    by_rest : (ns : List ℕ) → present (suc n) xs ≡ ns → (is_last_of p (present (suc n) xs) ≡ true → slice_index xs g ≡ 0) → slice_index xs g ≡ 0
    by_rest [] f more = none_present (suc n) xs g f
    by_rest (m ∷ ms) f more = more (ap (is_last_of p) f ∙ sym (ap (λ (ks : List ℕ). is_last_of p (n ∷ ks)) f) ∙ e)

some_present : (n : ℕ) (xs : Round) (g : ℕ) → 0 < slice_index xs g → (m : ℕ) × (ms : List ℕ) × (present n xs ≡ m ∷ ms)
some_present n [] zero lt = absurd (let z : ⊥ = omega arith in z)
some_present n [] (suc g) lt = absurd (let z : ⊥ = omega arith in z)
some_present n (zero ∷ xs) zero lt = absurd (let z : ⊥ = omega arith in z)
some_present n (zero ∷ xs) (suc g) lt = some_present (suc n) xs g lt
some_present n (suc c ∷ xs) g lt = (n, present (suc n) xs, refl)

all_none : (n : ℕ) (xs : Round) → ((g : ℕ) → slice_index xs g ≡ 0) → present n xs ≡ []
all_none n [] none = refl
all_none n (zero ∷ xs) none = all_none (suc n) xs (λ g. none (suc g))
all_none n (suc c ∷ xs) none = absurd (let e : suc c ≡ 0 = none 0 in let z : ⊥ = omega arith in z)

pub is_last_one : (p n k : ℕ) (xs : Round) → p ≡ n + k → 0 < slice_index xs k → ((g : ℕ) → k < g → slice_index xs g ≡ 0) → is_last_of p (present n xs) ≡ true
is_last_one p n zero [] e lt none = absurd (let z : ⊥ = omega arith in z)
is_last_one p n (suc k) [] e lt none = absurd (let z : ⊥ = omega arith in z)
is_last_one p n zero (zero ∷ xs) e lt none = absurd (let z : ⊥ = omega arith in z)
is_last_one p n (suc k) (zero ∷ xs) e lt none = is_last_one p (suc n) k xs (omega arith) lt (λ g less. none (suc g) (omega arith))
is_last_one p n zero (suc c ∷ xs) e lt none =
    ap (λ (ms : List ℕ). is_last_of p (n ∷ ms)) (all_none (suc n) xs (λ g. none (suc g) (omega arith))) ∙ (let z : (n == p) ≡ true = grind arith in z)
is_last_one p n (suc k) (suc c ∷ xs) e lt none =
    let some = some_present (suc n) xs k lt in
    ap (λ (ms : List ℕ). is_last_of p (n ∷ ms)) some.2 ∙ sym (ap (is_last_of p) some.2)
    ∙ is_last_one p (suc n) k xs (omega arith) lt (λ g less. none (suc g) (omega arith))

-- the number of the last element of a list of those who act
pub last_number : (p : ℕ) (xs : List Acting) (x : Acting) → Some x ≡ slice_get xs (length xs - 1) → (x.number == p) ≡ is_last_of p (numbers_of xs)
last_number p [] x e = absurd (let bad : Some x ≡ None = e in cc)
last_number p (y ∷ []) x e = let is : Some x ≡ Some y = e in let same : x ≡ y = cc in ap (λ (z : Acting). z.number == p) same
last_number p (y ∷ z ∷ zs) x e =
    let less : length (y ∷ z ∷ zs) - 1 ≡ suc (length (z ∷ zs) - 1) = omega arith in
    last_number p (z ∷ zs) x (e ∙ ap (slice_get (y ∷ z ∷ zs)) less)
