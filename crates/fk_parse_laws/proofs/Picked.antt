-- Lists that are picked from others, in their order.
use Rattle.std.proofs.Common.{◌≡◌, zero, suc, List, [], ◌∷◌, ◌++◌, ◌⊎◌, inl, inr, arith, sym, subst}
use Rattle.std.specs.Prelude.{All, AllPairs}
use Rattle.std.proofs.lemmas.List.Kept.{AllPairs-cons}
use Rattle.std.proofs.lemmas.List.Elements.{All-nil, All-cons}

module _ {A B : Type 0} (f : A → B) where
  -- the elements of the first list, as a function tells them, stand in the second one, in its order
  abbrev pub Picked : List A → List B → Type 0
  Picked [] ys = Unit {0}
  Picked (x ∷ xs) [] = ⊥
  Picked (x ∷ xs) (y ∷ ys) = ((f x ≡ y) × Picked xs ys) ⊎ Picked (x ∷ xs) ys

  pub picked_skip : (y : B) (xs : List A) (ys : List B) → Picked xs ys → Picked xs (y ∷ ys)
  picked_skip y [] ys w = tt
  picked_skip y (x ∷ xs) ys w = inr w

  pub picked_behind : (xs : List A) (front ys : List B) → Picked xs ys → Picked xs (front ++ ys)
  picked_behind xs [] ys w = w
  picked_behind xs (y ∷ front) ys w = picked_skip y xs (front ++ ys) (picked_behind xs front ys w)

  -- what is picked from one list and what is from another
  pub picked_append : (xs zs : List A) (ys ws : List B) → Picked xs ys → Picked zs ws → Picked (xs ++ zs) (ys ++ ws)
  picked_append [] zs ys ws v w = picked_behind zs ys ws w
  picked_append (x ∷ xs) zs [] ws v w = absurd v
  picked_append (x ∷ xs) zs (y ∷ ys) ws (inl v) w = inl (v.0, picked_append xs zs ys ws v.1 w)
  picked_append (x ∷ xs) zs (y ∷ ys) ws (inr v) w = inr (picked_append (x ∷ xs) zs ys ws v w)

  -- what holds of all of a list holds of all that is picked
  pub picked_all : (P : B → Type 0) (xs : List A) (ys : List B) → Picked xs ys → All P ys → All (λ x. P (f x)) xs
  picked_all P [] ys w h = All-nil (λ x. P (f x))
  picked_all P (x ∷ xs) [] w h = absurd w
  picked_all P (x ∷ xs) (y ∷ ys) (inl w) h =
      All-cons (λ a. P (f a)) x xs (subst P (sym w.0) (h zero y (omega arith))) (picked_all P xs ys w.1 (λ k d within. h (suc k) d (omega arith)))
  picked_all P (x ∷ xs) (y ∷ ys) (inr w) h = picked_all P (x ∷ xs) ys w (λ k d within. h (suc k) d (omega arith))

  -- and what holds of all pairs
  pub picked_pairs : (R : B → B → Type 0) (xs : List A) (ys : List B) → Picked xs ys → AllPairs R ys → AllPairs (λ a b. R (f a) (f b)) xs
  picked_pairs R [] ys w h = λ i j d less within. absurd (omega (arith, within))
  picked_pairs R (x ∷ xs) [] w h = absurd w
  picked_pairs R (x ∷ xs) (y ∷ ys) (inl w) h =
      let head : All (R y) ys = λ k d within. h zero (suc k) d (omega arith) (omega arith) in
      let tail : AllPairs R ys = λ i j d less within. h (suc i) (suc j) d (omega arith) (omega arith) in
      AllPairs-cons (λ a b. R (f a) (f b)) x xs
      (subst (λ z. All (λ b. R z (f b)) xs) (sym w.0) (picked_all (R y) xs ys w.1 head)) (picked_pairs R xs ys w.1 tail)
  picked_pairs R (x ∷ xs) (y ∷ ys) (inr w) h =
      picked_pairs R (x ∷ xs) ys w (λ i j d less within. h (suc i) (suc j) d (omega arith) (omega arith))
