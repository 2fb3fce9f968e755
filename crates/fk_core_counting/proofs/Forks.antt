-- The parts of a call that are open, as its nests have them, tell which levels a `fork` left.
use Rattle.std.proofs.Common.{◌≡◌, ◌⊎◌, ℕ, zero, suc, ◌-◌, ◌<◌, ◌≤◌, Bool, true, false, List, [], ◌∷◌, length, inl, inr, refl, sym, ap, ◌∙◌, arith, if◌then◌else◌}
use Rattle.std.specs.Prelude.{◌==◌}
use Rattle.std.proofs.lemmas.Bool.{cases_lt, eq-eqb, ne_eqb}
use Rattle.fk_lockstep_frames.specs.Nests.{Nest, OfFunction, OfPart, nesting, levels_of, left_by_fork, forks_of}
use Rattle.fk_core_levels.specs.Forks.{fork_at}
use Rattle.fk_core_counting.proofs.Ways.{open_by, around_by, open_in}

no_level : (main : Bool) → 0 ≡ 0 - (if main then 1 else 0)
no_level true = refl
no_level false = refl

fewer : (main : Bool) (deep n : ℕ) → n ≡ suc deep - (if main then 1 else 0) → (m : ℕ) → n ≡ suc m → m ≡ deep - (if main then 1 else 0)
fewer true deep n e m f = omega (arith, e, f)
fewer false deep n e m f = omega (arith, e, f)

long : (main : Bool) (nests : List Nest) → length (open_in main nests) ≡ levels_of main nests
long main [] = no_level main
long main (OfFunction frame ∷ nests) = no_level main
long main (OfPart numbered frame ∷ nests) = by (long main nests) (levels_of main (OfPart numbered frame ∷ nests)) refl
  where
    by : length (open_in main nests) ≡ levels_of main nests → (n : ℕ) → n ≡ levels_of main (OfPart numbered frame ∷ nests) → length (open_by n (around_by numbered nests) (open_in main nests)) ≡ n
    by rest zero e = refl
    by rest (suc n) e = ap suc (rest ∙ sym (fewer main (nesting nests) (suc n) e n refl))

-- at the level of the innermost part, and further out
chosen : {A : Type 0} (n level : ℕ) (x y z : A) → (level < n → y ≡ z) → level < suc n → (if n == level then x else y) ≡ (if suc level == suc n then x else z)
chosen n level x y z further lt = by (cases_lt level n)
  where
    by : (level < n) ⊎ (n ≤ level) → (if n == level then x else y) ≡ (if suc level == suc n then x else z)
    by (inl less) =
        ap (λ (b : Bool). if b then x else y) (ne_eqb n level (λ e. omega (arith, e, less))) ∙ further less
        ∙ sym (ap (λ (b : Bool). if b then x else z) (ne_eqb (suc level) (suc n) (λ e. omega (arith, e, less))))
    by (inr most) =
        let same : level ≡ n = omega (arith, lt, most) in
        ap (λ (b : Bool). if b then x else y) (eq-eqb n level (sym same)) ∙ sym (ap (λ (b : Bool). if b then x else z) (eq-eqb (suc level) (suc n) (ap suc same)))

pub told_forks : (main : Bool) (nests : List Nest) (level : ℕ) → level < levels_of main nests → fork_at (open_in main nests) level ≡ forks_of main nests level
told_forks main [] level lt = refl
told_forks main (OfFunction frame ∷ nests) level lt = refl
told_forks main (OfPart numbered frame ∷ nests) level lt = by (told_forks main nests level) (levels_of main (OfPart numbered frame ∷ nests)) refl lt
  where
    by : (level < levels_of main nests → fork_at (open_in main nests) level ≡ forks_of main nests level) → (n : ℕ) → n ≡ levels_of main (OfPart numbered frame ∷ nests) → level < n
        → fork_at (open_by n (around_by numbered nests) (open_in main nests)) level ≡ (if suc level == n then left_by_fork numbered nests else forks_of main nests level)
    by out zero e less = absurd (let z : ⊥ = omega (arith, less) in z)
    by out (suc n) e less =
        let many = fewer main (nesting nests) (suc n) e n refl in
        ap (λ m. if m == level then left_by_fork numbered nests else fork_at (open_in main nests) level) (long main nests ∙ sym many)
        ∙ chosen n level (left_by_fork numbered nests) (fork_at (open_in main nests) level) (forks_of main nests level)
        (λ further. out (let l : level < levels_of main nests = omega (arith, further, many) in l)) less
