-- What stands at an index of a list, and what the mark there breaks.
use Rattle.std.proofs.Common.{◌≡◌, ℕ, zero, suc, ◌<◌, List, [], ◌∷◌, length, get_or, map, Option, Some, None, refl, sym, ap, subst, ◌∙◌, arith}
use Rattle.std.specs.Prelude.{IsSomeAnd, slice_get}
use Rattle.std.specs.Option.{option_map}
use Rattle.std.proofs.lemmas.Option.{slice_get-map, slice_get_read, slice_get_within}
use Rattle.fk_check_rules.specs.declared.fault.Fault.{Fault}
use Rattle.fk_check_rules.specs.Least.{IsLeast}
use Rattle.fk_types_names.specs.Outline.{MarkTree}
use Rattle.fk_types_name_rules.specs.Found.{MarkBreaks}

module _ {X Y : Type 0} (f : X → Y) (xs : List X) (i : ℕ) (x : X) where
  pub map_at : i < length xs → x ≡ get_or xs i x → slice_get (map f xs) i ≡ Some (f x)
  map_at within is = slice_get-map f xs i ∙ ap (option_map f) (slice_get_read xs (length xs) i x refl within is)

pub some_at : {X : Type 0} (xs : List X) (i : ℕ) → i < length xs → (x : X) × (slice_get xs i ≡ Some x)
some_at [] i within = absurd (omega arith)
some_at (x ∷ xs) zero within = (x, refl)
some_at (x ∷ xs) (suc i) within = some_at xs i (omega arith)

module _ {X : Type 0} (P : X → Type 0) (xs : List X) (i : ℕ) where
  pub here_at : (x : X) → slice_get xs i ≡ Some x → P x → IsSomeAnd (slice_get xs i) P
  here_at x is p = subst (λ o. IsSomeAnd o P) (sym is) p

  pub at_here : (x : X) → slice_get xs i ≡ Some x → IsSomeAnd (slice_get xs i) P → P x
  at_here x is p = subst (λ o. IsSomeAnd o P) is p

  pub at_some : IsSomeAnd (slice_get xs i) P → (x : X) × (slice_get xs i ≡ Some x) × P x
  at_some p = by (slice_get xs i) refl p
    where
      by : (o : Option X) → slice_get xs i ≡ o → IsSomeAnd o P → (x : X) × (slice_get xs i ≡ Some x) × P x
      by (Some x) e q = (x, e, q)
      by None e q = absurd q

  pub at_within : IsSomeAnd (slice_get xs i) P → i < length xs
  at_within p = let s = at_some p in slice_get_within xs i s.0 s.1

-- what the mark of an index breaks, whichever it is
same_mark : (m n : MarkTree) → Some m ≡ Some n → m ≡ n
same_mark m n e = cc

pub mark_told : (marks : List MarkTree) (at : ℕ) (m mark : MarkTree) → slice_get marks at ≡ Some m → slice_get marks at ≡ Some mark → (r : Option Fault) → IsLeast (MarkBreaks marks at m) r → IsLeast (MarkBreaks marks at mark) r
mark_told marks at m mark here there r l = subst (λ x. IsLeast (MarkBreaks marks at x) r) (same_mark m mark (sym here ∙ there)) l
