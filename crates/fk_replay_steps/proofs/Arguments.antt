-- The arguments of a call are the last values, in the order in which the code has them.
use Rattle.std.proofs.Common.{◌≡◌, ℕ, zero, suc, ◌+◌, ◌-◌, ◌<◌, ◌≤◌, ◌⊎◌, ◌==◌, Bool, true, false, cond, List, [], ◌∷◌, ◌++◌, length, get_or, drop, reverse, replicate, refl, sym, ◌∙◌, ap, inl, inr, arith}
use Rattle.std.proofs.Math.Path.{fun_ext}
use Rattle.std.proofs.lemmas.Bool.{eqb-true, eqb-false, cases_lt}
use Rattle.std.proofs.lemmas.List.{get_or-reverse, get_or-drop, get_or_past, get_or-append_right, get_or_append_left, get_or-replicate, length-reverse, length-replicate}
use Rattle.std.specs.Prelude.{slice_index}
use Rattle.fk_meaning.specs.Request.{arguments}

-- argument i of n is the value before the n - 1 - i last ones
within : (n : ℕ) (vs : List ℕ) (i : ℕ) → i < n → arguments n vs i ≡ get_or vs (n - 1 - i) 0
within zero vs i low = absurd (omega arith)
within (suc n) [] i low = refl
within (suc n) (v ∷ vs) i low = by (λ lower. within n vs i lower) (i == n) refl
  where
    by : (i < n → arguments n vs i ≡ get_or vs (n - 1 - i) 0) → (b : Bool) → (i == n) ≡ b → cond b v (arguments n vs i) ≡ get_or (v ∷ vs) (suc n - 1 - i) 0
    by rest true e =
        let same : i ≡ n = eqb-true i n e in
        let none : suc n - 1 - i ≡ 0 = omega arith in
        sym (ap (λ k. get_or (v ∷ vs) k 0) none)
    by rest false e =
        let apart : i ≡ n → ⊥ = eqb-false i n e in
        let lower : i < n = omega (arith, apart) in
        let more : suc n - 1 - i ≡ suc (n - 1 - i) = omega arith in
        rest lower ∙ sym (ap (λ k. get_or (v ∷ vs) k 0) more)

past : (n : ℕ) (vs : List ℕ) (i : ℕ) → n ≤ i → arguments n vs i ≡ 0
past zero vs i le = refl
past (suc n) [] i le = refl
past (suc n) (v ∷ vs) i le = by (past n vs i (omega arith)) (i == n) refl
  where
    by : arguments n vs i ≡ 0 → (b : Bool) → (i == n) ≡ b → cond b v (arguments n vs i) ≡ 0
    by rest true e = let same : i ≡ n = eqb-true i n e in absurd (omega arith)
    by rest false e = rest

-- the last n values behind zeros for those that aren't there
module _ (xs : List ℕ) (n left zeros : ℕ) where
  at_more : left + n ≡ length xs → zeros ≡ 0 → (i : ℕ) → get_or (replicate {A = ℕ} zeros 0 ++ drop left xs) i 0 ≡ arguments n (reverse xs) i
  at_more all none i =
      ap (λ k. get_or (replicate {A = ℕ} k 0 ++ drop left xs) i 0) none ∙ get_or-drop left xs i 0 ∙ by (cases_lt i n)
    where
      by : (i < n) ⊎ (n ≤ i) → get_or xs (left + i) 0 ≡ arguments n (reverse xs) i
      by (inl low) =
          let same : length xs - 1 - (n - 1 - i) ≡ left + i = omega arith in
          sym (within n (reverse xs) i low ∙ get_or-reverse xs (n - 1 - i) 0 (omega arith) ∙ ap (λ k. get_or xs k 0) same)
      by (inr high) = get_or_past xs (left + i) 0 (omega arith) ∙ sym (past n (reverse xs) i high)

  at_fewer : left ≡ 0 → zeros + length xs ≡ n → (i : ℕ) → get_or (replicate {A = ℕ} zeros 0 ++ drop left xs) i 0 ≡ arguments n (reverse xs) i
  at_fewer none all i = ap (λ k. get_or (replicate {A = ℕ} zeros 0 ++ drop k xs) i 0) none ∙ by (cases_lt i zeros) (cases_lt i n)
    where
      whole : length (reverse xs) ≡ length xs
      whole = length-reverse xs

      padding : length (replicate {A = ℕ} zeros 0) ≡ zeros
      padding = length-replicate {A = ℕ} zeros 0

      by : (i < zeros) ⊎ (zeros ≤ i) → (i < n) ⊎ (n ≤ i) → get_or (replicate {A = ℕ} zeros 0 ++ xs) i 0 ≡ arguments n (reverse xs) i
      by (inl low) other =
          get_or_append_left (replicate {A = ℕ} zeros 0) xs 0 i (omega (arith, padding))
          ∙ get_or-replicate {A = ℕ} zeros i 0 0 low
          ∙ sym (within n (reverse xs) i (omega arith) ∙ get_or_past (reverse xs) (n - 1 - i) 0 (omega (arith, whole)))
      by (inr low) (inl high) =
          let same : length xs - 1 - (n - 1 - i) ≡ i - zeros = omega arith in
          get_or-append_right (replicate {A = ℕ} zeros 0) xs zeros i 0 padding low
          ∙ sym (within n (reverse xs) i high ∙ get_or-reverse xs (n - 1 - i) 0 (omega arith) ∙ ap (λ k. get_or xs k 0) same)
      by (inr low) (inr high) =
          get_or-append_right (replicate {A = ℕ} zeros 0) xs zeros i 0 padding low
          ∙ get_or_past xs (i - zeros) 0 (omega arith)
          ∙ sym (past n (reverse xs) i high)

  pub made_arguments : left ≡ length xs - n → zeros ≡ n - (length xs - left) → slice_index (replicate {A = ℕ} zeros 0 ++ drop left xs) ≡ arguments n (reverse xs)
  made_arguments is_left is_zeros = fun_ext (λ i. by i (cases_lt (length xs) n))
    where
      by : (i : ℕ) → (length xs < n) ⊎ (n ≤ length xs) → get_or (replicate {A = ℕ} zeros 0 ++ drop left xs) i 0 ≡ arguments n (reverse xs) i
      by i (inl lt) = at_fewer (omega arith) (omega arith) i
      by i (inr le) = at_more (omega arith) (omega arith) i
