-- A list that lies in another one from an index on, and the index behind it there.
use Rattle.std.proofs.Common.{◌≡◌, ℕ, suc, ◌+◌, List, [], ◌∷◌, ◌++◌, length, Some, slice_get, refl, ◌∙◌, arith}

one_more : (n i : ℕ) → n + suc i ≡ suc n + i
one_more n i = omega arith

module _ {X : Type 0} where
  abbrev pub At : (all : List X) → ℕ → List X → Type 0
  At all i [] = Unit {0}
  At all i (x ∷ xs) = (slice_get all i ≡ Some x) × At all (suc i) xs

  abbrev pub past : List X → ℕ → ℕ
  past [] i = i
  past (x ∷ xs) i = past xs (suc i)

  pub at_front : (all : List X) (i : ℕ) (xs ys : List X) → At all i (xs ++ ys) → At all i xs
  at_front all i [] ys h = tt
  at_front all i (x ∷ xs) ys h = (h.0, at_front all (suc i) xs ys h.1)

  pub at_rest : (all : List X) (i : ℕ) (xs ys : List X) → At all i (xs ++ ys) → At all (past xs i) ys
  at_rest all i [] ys h = h
  at_rest all i (x ∷ xs) ys h = at_rest all (suc i) xs ys h.1

  pub past_both : (xs ys : List X) (i : ℕ) → past (xs ++ ys) i ≡ past ys (past xs i)
  past_both [] ys i = refl
  past_both (x ∷ xs) ys i = past_both xs ys (suc i)

  pub past_sum : (xs : List X) (i : ℕ) → past xs i ≡ length xs + i
  past_sum [] i = omega arith
  past_sum (x ∷ xs) i = past_sum xs (suc i) ∙ one_more (length xs) i

  at_more : (x : X) (all : List X) (i : ℕ) (xs : List X) → At all i xs → At (x ∷ all) (suc i) xs
  at_more x all i [] h = tt
  at_more x all i (y ∷ xs) h = (h.0, at_more x all (suc i) xs h.1)

  -- a list lies in itself
  pub at_whole : (xs : List X) → At xs 0 xs
  at_whole [] = tt
  at_whole (x ∷ xs) = (refl, at_more x xs 0 xs (at_whole xs))
