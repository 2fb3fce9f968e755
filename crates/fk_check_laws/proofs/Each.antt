-- What is so of each element of a list.
use Rattle.std.proofs.Common.{◌≡◌, inl, inr, ℕ, zero, suc, ◌≤◌, List, [], ◌∷◌, ◌++◌, Contains, Some, slice_get, refl, sym, ◌∙◌, subst, arith}
use Rattle.std.proofs.lemmas.Bool.{cases_order}
use Rattle.std.proofs.lemmas.Option.{same_Some}
use Rattle.fk_types_rules.proofs.Counting.{times, apart}

abbrev pub Each : {X : Type 0} → (X → Type 0) → List X → Type 0
Each P [] = Unit {0}
Each P (x ∷ xs) = P x × Each P xs

pub front_of : {X : Type 0} (P : X → Type 0) (xs ys : List X) → Each P (xs ++ ys) → Each P xs
front_of P [] ys h = tt
front_of P (x ∷ xs) ys h = (h.0, front_of P xs ys h.1)

pub rest_of : {X : Type 0} (P : X → Type 0) (xs ys : List X) → Each P (xs ++ ys) → Each P ys
rest_of P [] ys h = h
rest_of P (x ∷ xs) ys h = rest_of P xs ys h.1

-- and of lists in a row
pub two_of : {X : Type 0} (P : X → Type 0) (xs ys : List X) → Each P (xs ++ ys) → Each P xs × Each P ys
two_of P xs ys h = (front_of P xs ys h, rest_of P xs ys h)

pub three_of : {X : Type 0} (P : X → Type 0) (xs ys zs : List X) → Each P (xs ++ ys ++ zs) → Each P xs × Each P ys × Each P zs
three_of P xs ys zs h =
    let both = two_of P xs ys (front_of P (xs ++ ys) zs h) in
    (both.0, both.1, rest_of P (xs ++ ys) zs h)

pub four_of : {X : Type 0} (P : X → Type 0) (xs ys zs ws : List X) → Each P (xs ++ ys ++ zs ++ ws) → Each P xs × Each P ys × Each P zs × Each P ws
four_of P xs ys zs ws h =
    let three = three_of P xs ys zs (front_of P (xs ++ ys ++ zs) ws h) in
    (three.0, three.1, three.2, rest_of P (xs ++ ys ++ zs) ws h)

pub each : {X : Type 0} (P : X → Type 0) (xs : List X) → ((i : ℕ) (x : X) → slice_get xs i ≡ Some x → P x) → Each P xs
each P [] h = tt
each P (x ∷ xs) h = (h 0 x refl, each P xs (λ i y is. h (suc i) y is))

pub one_of : {X : Type 0} (P : X → Type 0) (xs : List X) → Each P xs → (i : ℕ) (x : X) → slice_get xs i ≡ Some x → P x
one_of P [] h i x is = absurd (cc)
one_of P (y ∷ xs) h zero x is = subst P (same_Some y x is) h.0
one_of P (y ∷ xs) h (suc i) x is = one_of P xs h.1 i x is

pub each_map : {X : Type 0} (P Q : X → Type 0) → ((x : X) → P x → Q x) → (xs : List X) → Each P xs → Each Q xs
each_map P Q f [] h = tt
each_map P Q f (x ∷ xs) h = (f x h.0, each_map P Q f xs h.1)

-- where no token counts twice, those at one token are the same
pub same_at : {X : Type 0} (token : X → ℕ) (xs : List X) → ((at : ℕ) → times token at xs ≤ 1) → (i j : ℕ) (x y : X)
    → slice_get xs i ≡ Some x → slice_get xs j ≡ Some y → token x ≡ token y → x ≡ y
same_at token xs once i j x y is other same = elim (cases_order i j) [
  | inl e ↦ same_Some x y (both e)
  | inr (inl less) ↦ absurd (apart token xs once i j x y less is other same)
  | inr (inr more) ↦ absurd (apart token xs once j i y x more other is (sym same))
]
  where
    both : i ≡ j → Some x ≡ Some y
    both e = sym is ∙ subst (λ k. slice_get xs i ≡ slice_get xs k) e refl ∙ other

-- and of each that is among them
pub of_each : {X : Type 0} (P : X → Type 0) (xs : List X) → Each P xs → (x : X) → Contains xs x → P x
of_each P [] h x (k, low, is) = absurd (omega (arith, low))
of_each P (y ∷ xs) h x (zero, low, is) = subst P is h.0
of_each P (y ∷ xs) h x (suc k, low, is) = of_each P xs h.1 x (k, omega (arith, low), is)
