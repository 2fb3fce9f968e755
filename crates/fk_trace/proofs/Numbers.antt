-- The numbers of harts in a column.
use Rattle.std.proofs.Common.{◌≡◌, ℕ, zero, suc, ◌+◌, ◌<◌, ◌≤◌, List, [], ◌∷◌, None, Bool, true, false, length, drop, take, refl, sym, ap, ◌∙◌, arith}
use Rattle.std.specs.Prelude.{slice_index_or}
use Rattle.std.specs.List.{list_any}
use Rattle.fk_trace.specs.declared.column.Column.{Column}
use Rattle.fk_trace.specs.Text.{Commit, Commits, number_in}
use Rattle.fk_trace.specs.Ranges.{numbers_of}

-- the numbers from a hart on begin with its own
pub numbers_from : (column : Column) (commits : Commits) (hart : ℕ) → hart < length commits
    → drop hart (numbers_of column commits) ≡ number_in column (slice_index_or commits hart None) ∷ drop (hart + 1) (numbers_of column commits)
numbers_from column [] hart lt = absurd (omega (arith, lt))
numbers_from column (c ∷ cs) zero lt = refl
numbers_from column (c ∷ cs) (suc hart) lt =
    let next : hart + 1 ≡ suc hart = omega arith in
    let whole : suc hart + 1 ≡ suc (suc hart) = omega arith in
    numbers_from column cs hart (omega (arith, lt))
    ∙ ap (λ k. number_in column (slice_index_or cs hart None) ∷ drop k (numbers_of column cs)) next
    ∙ ap (λ k. number_in column (slice_index_or cs hart None) ∷ drop k (numbers_of column (c ∷ cs))) (sym whole)

-- behind the last hart there are none
pub numbers_end : (column : Column) (commits : Commits) (hart : ℕ) → length commits ≤ hart → drop hart (numbers_of column commits) ≡ []
numbers_end column [] zero le = refl
numbers_end column [] (suc hart) le = refl
numbers_end column (c ∷ cs) zero le = absurd (omega (arith, le))
numbers_end column (c ∷ cs) (suc hart) le = numbers_end column cs hart (omega (arith, le))

-- a test of each hart in turn
pub none_yet : (test : Commit → Bool) (commits : Commits) (hart : ℕ) → hart < length commits → list_any test (take hart commits) ≡ false
    → test (slice_index_or commits hart None) ≡ false → list_any test (take (hart + 1) commits) ≡ false
none_yet test [] hart lt before here = absurd (omega (arith, lt))
none_yet test (c ∷ cs) zero lt before here =
    let one : zero + 1 ≡ suc zero = omega arith in
    let found : list_any test (take (suc zero) (c ∷ cs)) ≡ false = rw here refl in
    ap (λ k. list_any test (take k (c ∷ cs))) one ∙ found
none_yet test (c ∷ cs) (suc hart) lt before here =
    let more : suc hart + 1 ≡ suc (hart + 1) = omega arith in
    ap (λ k. list_any test (take k (c ∷ cs))) more ∙ by (test c) refl (none_yet test cs hart (omega (arith, lt)))
  where
    by : (b : Bool) → test c ≡ b → (list_any test (take hart cs) ≡ false → test (slice_index_or cs hart None) ≡ false → list_any test (take (hart + 1) cs) ≡ false)
        → list_any test (take (suc (hart + 1)) (c ∷ cs)) ≡ false
    by true e rest = let bad : true ≡ false = rw e at before in cc
    by false e rest = rw e (rest (rw e at before) here)

pub some_here : (test : Commit → Bool) (commits : Commits) (hart : ℕ) → hart < length commits → test (slice_index_or commits hart None) ≡ true → list_any test commits ≡ true
some_here test [] hart lt here = absurd (omega (arith, lt))
some_here test (c ∷ cs) zero lt here = rw here refl
some_here test (c ∷ cs) (suc hart) lt here = by (test c) refl (some_here test cs hart (omega (arith, lt)) here)
  where
    by : (b : Bool) → test c ≡ b → list_any test cs ≡ true → list_any test (c ∷ cs) ≡ true
    by true e rest = rw e refl
    by false e rest = rw e rest

take-whole : {X : Type 0} (xs : List X) (n : ℕ) → length xs ≤ n → take n xs ≡ xs
take-whole [] zero le = refl
take-whole [] (suc n) le = refl
take-whole (x ∷ xs) zero le = absurd (omega (arith, le))
take-whole (x ∷ xs) (suc n) le = ap (λ l. x ∷ l) (take-whole xs n (omega (arith, le)))

pub none_at_all : (test : Commit → Bool) (commits : Commits) (n : ℕ) → length commits ≤ n → list_any test (take n commits) ≡ false → list_any test commits ≡ false
none_at_all test commits n le none = ap (list_any test) (sym (take-whole commits n le)) ∙ none
