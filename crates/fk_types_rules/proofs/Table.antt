-- A table of types by token, after notes.
use Rattle.std.proofs.Common.{◌≡◌, ◌≢◌, ◌⊎◌, inl, inr, ℕ, zero, suc, ◌<◌, ◌≤◌, List, [], ◌∷◌, length, replicate, fold, Option, Some, None, Contains, slice_get, slice_set, option_and_then, refl, sym, subst, ap, ◌∙◌, length-set, arith}
use Rattle.std.proofs.lemmas.Bool.{cases_eq, cases_lt}
use Rattle.std.proofs.lemmas.List.{set_past}
use Rattle.std.proofs.lemmas.List.Sums.{sum_by-cons}
use Rattle.fk_types_operators.specs.declared.values.ExpressionType.{ExpressionType}
use Rattle.fk_types_judgments.specs.Typing.{Noted}
use Rattle.fk_types_expressions.specs.Read.{with_note}
use Rattle.fk_types_rules.specs.Noted.{type_at}
use Rattle.fk_types_rules.proofs.Counting.{by, times, one-same}
use Rattle.fk_types_rules.proofs.Notes.{note_token}

abbrev Types : Type 0
Types = List (Option ExpressionType)

-- what a table has at a token, where it has an entry
abbrev pub type_in : Option (Option ExpressionType) → Option ExpressionType
type_in entry = option_and_then (λ type. type) entry

set_same : {X : Type 0} (xs : List X) (i : ℕ) (x : X) → i < length xs → slice_get (slice_set xs i x) i ≡ Some x
set_same [] i x within = absurd (omega (arith, within))
set_same (y ∷ xs) zero x within = refl
set_same (y ∷ xs) (suc i) x within = set_same xs i x (omega (arith, within))

set_other : {X : Type 0} (xs : List X) (i k : ℕ) (x : X) → k ≢ i → slice_get (slice_set xs i x) k ≡ slice_get xs k
set_other [] i k x other = refl
set_other (y ∷ xs) zero zero x other = absurd (other refl)
set_other (y ∷ xs) zero (suc k) x other = refl
set_other (y ∷ xs) (suc i) zero x other = refl
set_other (y ∷ xs) (suc i) (suc k) x other = set_other xs i k x (λ same. other (ap suc same))

-- a token that isn't noted keeps its type
kept : (types : Types) (notes : List Noted) (at : ℕ) → times note_token at notes ≡ 0 → slice_get (fold with_note types notes) at ≡ slice_get types at
kept types [] at none = refl
kept types (n ∷ notes) at none =
    let both = sum_by-cons (by note_token at) n notes in
    kept (with_note types n) notes at (omega (arith, none, both))
    ∙ set_other types n.at at n.type (λ same. let once = one-same at n.at same in omega (arith, none, both, once))

-- one that is noted once has that
pub set_once : (types : Types) (notes : List Noted) (x : Noted) (i : ℕ) → slice_get notes i ≡ Some x → times note_token x.at notes ≤ 1 → x.at < length types
    → slice_get (fold with_note types notes) x.at ≡ Some x.type
set_once types [] x i is once within = absurd (cc)
set_once types (n ∷ notes) x zero is once within =
    let same : x ≡ n = cc in
    let both = sum_by-cons (by note_token x.at) n notes in
    let here = one-same x.at n.at (ap note_token same) in
    kept (with_note types n) notes x.at (omega (arith, once, both, here))
    ∙ subst (λ (m : Noted). slice_get (with_note types m) x.at ≡ Some x.type) same (set_same types x.at x.type within)
set_once types (n ∷ notes) x (suc i) is once within =
    let both = sum_by-cons (by note_token x.at) n notes in
    set_once (with_note types n) notes x i is (omega (arith, once, both)) (omega (arith, within, length-set types n.at n.type))

-- a type after a note was there before, or is noted
same_note : (n : Noted) (at : ℕ) (type : Option ExpressionType) → n.at ≡ at → n.type ≡ type → n ≡ record { at = at; type = type }
same_note n at type p q = λ i. record { at = p i; type = q i }

by_note : (types : Types) (n : Noted) (at : ℕ) (type : ExpressionType) → type_at (with_note types n) at ≡ Some type
    → (type_at types at ≡ Some type) ⊎ (n ≡ record { at = at; type = Some type })
by_note types n at type is = elim (cases_eq at n.at) [
  | inl same ↦ elim (cases_lt n.at (length types)) [
    | inl within ↦ inr (same_note n at (Some type) (sym same) (written within (subst (λ k. type_at (with_note types n) k ≡ Some type) same is)))
    | inr past ↦ inl (subst (λ ts. type_at ts at ≡ Some type) (set_past types n.at n.type past) is)
  ]
  | inr other ↦ inl (ap type_in (sym (set_other types n.at at n.type other)) ∙ is)
]
  where
    written : n.at < length types → type_at (with_note types n) n.at ≡ Some type → n.type ≡ Some type
    written within here = sym (ap type_in (set_same types n.at n.type within)) ∙ here

pub told : (types : Types) (notes : List Noted) (at : ℕ) (type : ExpressionType) → type_at (fold with_note types notes) at ≡ Some type
    → (type_at types at ≡ Some type) ⊎ Contains notes (record { at = at; type = Some type })
told types [] at type is = inl is
told types (n ∷ notes) at type is = elim (told (with_note types n) notes at type is) [
  | inl before ↦ elim (by_note types n at type before) [ inl old ↦ inl old | inr new ↦ inr (0, omega arith, new) ]
  | inr later ↦ inr (suc later.0, omega (arith, later.1), later.2)
]

-- a table of no types has none
pub no_type : (count at : ℕ) (type : ExpressionType) → type_at (replicate count None) at ≡ Some type → ⊥
no_type zero at type is = cc
no_type (suc count) zero type is = cc
no_type (suc count) (suc at) type is = no_type count at type is
