-- A list of which only the elements of those in a round are changed, one after the other.
use Rattle.std.proofs.Common.{◌≡◌, ℕ, zero, suc, ◌<◌, ◌≤◌, ◌⊎◌, inl, inr, List, [], ◌∷◌, length, set, Some, ap, refl, sym, ◌∙◌, subst, arith, length-set}
use Rattle.std.specs.Prelude.{slice_index, slice_get}
use Rattle.fk_meaning.specs.Round.{Round}
use Rattle.fk_replay_phases.proofs.Present.{IsNext}

-- two lists with the same elements are equal
pub same_elements : {A : Type 0} (xs ys : List A) → length xs ≡ length ys → ((i : ℕ) → i < length xs → slice_get xs i ≡ slice_get ys i) → xs ≡ ys
same_elements [] [] e same = refl
same_elements [] (y ∷ ys) e same = absurd (let z : ⊥ = omega arith in z)
same_elements (x ∷ xs) [] e same = absurd (let z : ⊥ = omega arith in z)
same_elements (x ∷ xs) (y ∷ ys) e same =
    let head : Some x ≡ Some y = same 0 (omega arith) in
    let tail : xs ≡ ys = same_elements xs ys (omega arith) (λ i lt. same (suc i) (omega arith)) in
    let x_is : x ≡ y = cc in
    cc

pub get_set : {A : Type 0} (xs : List A) (i : ℕ) (x : A) → i < length xs → slice_get (set xs i x) i ≡ Some x
get_set [] i x lt = absurd (let z : ⊥ = omega arith in z)
get_set (y ∷ ys) zero x lt = refl
get_set (y ∷ ys) (suc i) x lt = get_set ys i x (omega arith)

pub get_set_other : {A : Type 0} (xs : List A) (i j : ℕ) (x : A) → (i ≡ j → ⊥) → slice_get (set xs i x) j ≡ slice_get xs j
get_set_other [] i j x ne = refl
get_set_other (y ∷ ys) zero zero x ne = absurd (ne refl)
get_set_other (y ∷ ys) zero (suc j) x ne = refl
get_set_other (y ∷ ys) (suc i) zero x ne = refl
get_set_other (y ∷ ys) (suc i) (suc j) x ne = get_set_other ys i j x (λ e. ne (ap suc e))

module _ {A : Type 0} (Is : ℕ → A → Type 0) (old : List A) where
  -- those below n are done, the others as before
  pub record SoFar (n : ℕ) (now : List A) : Type 0 where
    pub many : length now ≡ length old
    pub done : (h : ℕ) (x : A) → h < n → slice_get now h ≡ Some x → Is h x
    pub rest : (h : ℕ) → n ≤ h → slice_get now h ≡ slice_get old h

  pub begun : SoFar 0 old
  begun = record { many = refl; done = λ h x lt is. absurd (let z : ⊥ = omega arith in z); rest = λ h le. refl }

  module _ (round : Round) (absent : (h : ℕ) (x : A) → slice_get old h ≡ Some x → slice_index round h ≡ 0 → Is h x) where
    pub below : (n g : ℕ) (now : List A) → SoFar n now → ((h : ℕ) → n ≤ h → h < g → slice_index round h ≡ 0)
        → (h : ℕ) (x : A) → h < g → slice_get now h ≡ Some x → Is h x
    below n g now so none h x lt is = by (or_le h n)
      where
        or_le : (h n : ℕ) → (h < n) ⊎ (n ≤ h)
        or_le h n = grind arith

        by : (h < n) ⊎ (n ≤ h) → Is h x
        by (inl low) = so.done h x low is
        by (inr high) = absent h x (sym (so.rest h high) ∙ is) (none h high lt)

    pub more : (n g : ℕ) (x : A) (rest : List ℕ) (now : List A) → IsNext round n g rest → SoFar n now → g < length now → Is g x → SoFar (suc g) (set now g x)
    more n g x rest now next so lt is = record {
      many = grind (arith, so.many, length-set {A = A});
      done = λ h y low at. done h y (or_eq h g low) at;
      rest = λ h high. get_set_other now g h x (λ e. omega arith) ∙ so.rest h (let z = next.low in omega arith);
    }
      where
        or_eq : (h g : ℕ) → h < suc g → (h < g) ⊎ (h ≡ g)
        or_eq h g lt = grind arith

        done : (h : ℕ) (y : A) → (h < g) ⊎ (h ≡ g) → slice_get (set now g x) h ≡ Some y → Is h y
        done h y (inl low) at = below n g now so next.none h y low (sym (get_set_other now g h x (λ e. omega arith)) ∙ at)
        done h y (inr e) at =
            let here : slice_get (set now g x) h ≡ Some x = ap (slice_get (set now g x)) e ∙ get_set now g x lt in
            let same : x ≡ y = cc in
            subst (Is h) same (subst (λ (k : ℕ). Is k x) (sym e) is)

    pub at_end : (n : ℕ) (now : List A) → SoFar n now → ((h : ℕ) → n ≤ h → slice_index round h ≡ 0) → (h : ℕ) (x : A) → slice_get now h ≡ Some x → Is h x
    at_end n now so none h x is = below n (suc h) now so (λ g low lt. none g low) h x (omega arith) is
