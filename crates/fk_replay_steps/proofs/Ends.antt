-- Value lists, of which the code has the last value at the end.
use Rattle.std.proofs.Common.{◌≡◌, ℕ, zero, suc, ◌-◌, ◌<◌, ◌≤◌, List, [], ◌∷◌, ◌++◌, length, get_or, take, drop, reverse, ap, refl, sym, ◌∙◌, arith}
use Rattle.std.proofs.lemmas.List.{get_or-reverse, length-reverse, reverse-append, length-take-le, length-drop, take-append-drop}
use Rattle.fk_meaning.specs.Processor.{last, before}

last_before : (vs : List ℕ) (n : ℕ) → last (before n vs) ≡ get_or vs n 0
last_before [] zero = refl
last_before [] (suc n) = refl
last_before (v ∷ vs) zero = refl
last_before (v ∷ vs) (suc n) = last_before vs n

past : (vs : List ℕ) (n : ℕ) → length vs ≤ n → get_or vs n 0 ≡ 0
past [] zero le = refl
past [] (suc n) le = refl
past (v ∷ vs) zero le = absurd (let z : ⊥ = omega arith in z)
past (v ∷ vs) (suc n) le = past vs n (omega arith)

-- the value before the last n, if there is one
pub there : (xs : List ℕ) (n : ℕ) → n < length xs → last (before n (reverse xs)) ≡ get_or xs (length xs - 1 - n) 0
there xs n lt = last_before (reverse xs) n ∙ get_or-reverse xs n 0 lt

-- and if there is none
pub none : (xs : List ℕ) (n : ℕ) → length xs ≤ n → last (before n (reverse xs)) ≡ 0
none xs n le =
    let same : length (reverse xs) ≡ length xs = length-reverse xs in
    last_before (reverse xs) n ∙ past (reverse xs) n (omega (arith, same))

before_behind : (n : ℕ) (front more : List ℕ) → length front ≤ n → before n (front ++ more) ≡ before (n - length front) more
before_behind zero [] more le = refl
before_behind (suc n) [] more le = let same : suc n ≡ suc n - 0 = omega arith in ap (λ k. before k more) same
before_behind zero (v ∷ front) more le = absurd (let z : ⊥ = omega arith in z)
before_behind (suc n) (v ∷ front) more le =
    let same : n - length front ≡ suc n - suc (length front) = omega arith in
    before_behind n front more (omega arith) ∙ ap (λ k. before k more) same

-- nothing is left out, or there is nothing
before_none : (n : ℕ) (vs : List ℕ) → (0 < n → length vs ≡ 0) → before n vs ≡ vs
before_none zero vs none = refl
before_none (suc n) [] none = refl
before_none (suc n) (v ∷ vs) none = let e : suc (length vs) ≡ 0 = none (omega arith) in absurd (let z : ⊥ = omega (arith, e) in z)

-- the values before the last n are those at the front of the code's list
pub before_last : (xs : List ℕ) (n : ℕ) → before n (reverse xs) ≡ reverse (take (length xs - n) xs)
before_last xs n =
    let k = length xs - n in
    let front = take k xs in
    let end = drop k xs in
    let of_front : length (reverse front) ≡ k = length-reverse front ∙ length-take-le k xs (omega arith) in
    let of_end : length (reverse end) ≡ length xs - k = length-reverse end ∙ length-drop k xs in
    ap (λ (ys : List ℕ). before n (reverse ys)) (sym (take-append-drop k xs))
    ∙ ap (before n) (reverse-append front end)
    ∙ before_behind n (reverse end) (reverse front) (omega (arith, of_end))
    ∙ before_none (n - length (reverse end)) (reverse front) (λ lt. omega (arith, of_front, of_end, lt))

-- another element at the end is the first of the reversed list
pub reverse_end : {A : Type 0} (xs : List A) (x : A) → reverse (xs ++ x ∷ []) ≡ x ∷ reverse xs
reverse_end xs x = reverse-append xs (x ∷ [])
