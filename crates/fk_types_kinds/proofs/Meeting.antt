-- The kinds of one token more.
use Rattle.std.proofs.Common.{◌≡◌, ◌⊎◌, inl, inr, ℕ, zero, suc, ◌+◌, ◌<◌, ◌≤◌, List, [], ◌∷◌, ◌++◌, length, take, get_or, Option, Some, None, slice_get, refl, sym, ap, subst, ◌∙◌, arith}
use Rattle.std.specs.Option.{option_and_then}
use Rattle.std.proofs.lemmas.List.{length_push, take_more}
use Rattle.std.proofs.lemmas.Option.{none-some, same_Some, slice_get_within, option_and_then_some}
use Rattle.std.proofs.Math.Nat.{eq-or-lt_of_le}
use Rattle.fk_syntax.specs.declared.facts.Kind.{Kind}
use Rattle.fk_types_structs.specs.Types.{StructTree}
use Rattle.fk_types_structs.proofs.WordLemmas.{slice_get-last, slice_get-front}
use Rattle.fk_types_operators.specs.declared.values.ExpressionType.{ExpressionType}
use Rattle.fk_types_rules.specs.Kinds.{IsKind}
use Rattle.fk_types_rules.specs.Noted.{type_at}
use Rattle.fk_types_kinds.specs.Met.{IsFirstMet, AreMet, IsNext}

abbrev Types : Type 0
Types = List (Option ExpressionType)

-- ---- a list with one element more

get_push : {X : Type 0} (xs : List X) (y : X) (i : ℕ) (x : X) → slice_get (xs ++ y ∷ []) i ≡ Some x → ((i < length xs) × (slice_get xs i ≡ Some x)) ⊎ ((i ≡ length xs) × (y ≡ x))
get_push [] y zero x e = inr (refl, same_Some y x e)
get_push [] y (suc i) x e = absurd (none-some x e)
get_push (z ∷ xs) y zero x e = inl (omega arith, e)
get_push (z ∷ xs) y (suc i) x e = elim (get_push xs y i x e) [ inl h ↦ inl (omega (arith, h.0), h.1) | inr h ↦ inr (ap suc h.0, h.1) ]

type_within : (types : Types) (at : ℕ) (type : ExpressionType) → type_at types at ≡ Some type → at < length types
type_within types at type e = option_and_then_some (λ (t : Option ExpressionType). t) (slice_get types at) type e (λ t there _. slice_get_within types at t there)

type_front : (types : Types) (t : Option ExpressionType) (at : ℕ) → at < length types → type_at (types ++ t ∷ []) at ≡ type_at types at
type_front types t at within = ap (option_and_then (λ (t : Option ExpressionType). t)) (slice_get-front types t at within)

type_last : (types : Types) (t : Option ExpressionType) → type_at (types ++ t ∷ []) (length types) ≡ t
type_last types t = ap (option_and_then (λ (t : Option ExpressionType). t)) (slice_get-last types t)

type_push : (types : Types) (t : Option ExpressionType) (at : ℕ) (type : ExpressionType) → type_at (types ++ t ∷ []) at ≡ Some type
    → ((at < length types) × (type_at types at ≡ Some type)) ⊎ ((at ≡ length types) × (t ≡ Some type))
type_push types t at type e = option_and_then_some (λ (t : Option ExpressionType). t) (slice_get (types ++ t ∷ []) at) type e (λ x there is. by x there is)
  where
    by : (x : Option ExpressionType) → slice_get (types ++ t ∷ []) at ≡ Some x → x ≡ Some type → ((at < length types) × (type_at types at ≡ Some type)) ⊎ ((at ≡ length types) × (t ≡ Some type))
    by x there is = elim (get_push types t at x there) [
      | inl h ↦ inl (h.0, ap (option_and_then (λ (t : Option ExpressionType). t)) h.1 ∙ is)
      | inr h ↦ inr (h.0, h.1 ∙ is)
    ]

-- ---- the kinds of tokens with one more

pub AreMet-none : (structs : List StructTree) → AreMet structs [] [] []
AreMet-none structs = record {
  same_length = refl;
  numbered = λ at type e. absurd (none-some type e);
  unmet = λ at number none there. absurd (none-some number there);
  distinct = λ i j kind e f. absurd (none-some kind e);
  first = λ number within. absurd (omega (arith, within));
}

module _ (structs : List StructTree) (types : Types) (kinds : List Kind) (numbers : List ℕ) (met : AreMet structs types kinds numbers) where
  -- a token that has a type has a number
  number_front : (t : Option ExpressionType) (n at : ℕ) → at < length types → slice_get (numbers ++ n ∷ []) at ≡ slice_get numbers at
  number_front t n at within = slice_get-front numbers n at (omega (arith, within, met.same_length))

  number_last : (n : ℕ) → slice_get (numbers ++ n ∷ []) (length types) ≡ Some n
  number_last n = ap (slice_get (numbers ++ n ∷ [])) (sym met.same_length) ∙ slice_get-last numbers n

  number_below : (at other : ℕ) (type : ExpressionType) → type_at types at ≡ Some type → slice_get numbers at ≡ Some other → other < length kinds
  number_below at other type has there =
      let x = met.numbered at type has in
      let same : x.0 ≡ other = same_Some x.0 other (sym x.2 ∙ there) in
      subst (λ n. n < length kinds) same (slice_get_within kinds x.0 x.1 x.3)

  -- and each other token 0
  unmet_more : (t : Option ExpressionType) (n : ℕ) → (t ≡ None → n ≡ 0) → (at number : ℕ) → type_at (types ++ t ∷ []) at ≡ None → slice_get (numbers ++ n ∷ []) at ≡ Some number → number ≡ 0
  unmet_more t n last at number none there = elim (get_push numbers n at number there) [
    | inl h ↦ met.unmet at number (sym (type_front types t at (omega (arith, h.0, met.same_length))) ∙ none) h.1
    | inr h ↦ sym h.1 ∙ last (sym (type_last types t) ∙ sym (ap (type_at (types ++ t ∷ [])) (h.0 ∙ met.same_length)) ∙ none)
  ]

  -- a kind that was met first at a token stays so
  first_kept : (t : Option ExpressionType) (n number at : ℕ) → IsFirstMet types numbers number at → IsFirstMet (types ++ t ∷ []) (numbers ++ n ∷ []) number at
  first_kept t n number at h =
      let inside : at < length types = type_within types at h.has_type.0 h.has_type.1 in
      record {
        has_type = (h.has_type.0, type_front types t at inside ∙ h.has_type.1);
        here = number_front t n at inside ∙ h.here;
        first = λ before other type less has there.
            let within : before < length types = omega (arith, less, inside) in
            h.first before other type less (sym (type_front types t before within) ∙ has) (sym (number_front t n before within) ∙ there);
      }

  -- a kind that comes last is met first at the last token
  first_new : (type : ExpressionType) (n : ℕ) → n ≡ length kinds → IsFirstMet (types ++ Some type ∷ []) (numbers ++ n ∷ []) n (length types)
  first_new type n last = record {
    has_type = (type, type_last types (Some type));
    here = number_last n;
    first = λ before other t less has there. subst (λ k. other < k) (sym last)
        (number_below before other t (sym (type_front types (Some type) before less) ∙ has) (sym (number_front (Some type) n before less) ∙ there));
  }

  -- a token without a type
  met_none : (n : ℕ) → n ≡ 0 → AreMet structs (types ++ None ∷ []) kinds (numbers ++ n ∷ [])
  met_none n zeroth = record {
    same_length = omega (arith, met.same_length, length_push numbers n, length_push types None);
    numbered = λ at type e. elim (type_push types None at type e) [
      | inl h ↦ let x = met.numbered at type h.1 in (x.0, x.1, number_front None n at h.0 ∙ x.2, x.3, x.4)
      | inr h ↦ absurd (none-some type h.1)
    ];
    unmet = unmet_more None n (λ e. zeroth);
    distinct = met.distinct;
    first = λ number within. let x = met.first number within in (x.0, first_kept None n number x.0 x.1);
  }

  -- a token with a type, whose kind is among these
  module _ (type : ExpressionType) (kind : Kind) (is : IsKind structs type kind) (n : ℕ) where
    numbered_last : (later : List Kind) → slice_get later n ≡ Some kind → ((i : ℕ) (k : Kind) → slice_get kinds i ≡ Some k → slice_get later i ≡ Some k)
        → (at : ℕ) (t : ExpressionType) → type_at (types ++ Some type ∷ []) at ≡ Some t
        → (number : ℕ) × (k : Kind) × (slice_get (numbers ++ n ∷ []) at ≡ Some number) × (slice_get later number ≡ Some k) × IsKind structs t k
    numbered_last later there kept at t e = elim (type_push types (Some type) at t e) [
      | inl h ↦ let x = met.numbered at t h.1 in (x.0, x.1, number_front (Some type) n at h.0 ∙ x.2, kept x.0 x.1 x.3, x.4)
      | inr h ↦ (n, kind, ap (slice_get (numbers ++ n ∷ [])) h.0 ∙ number_last n, there, subst (λ (t : ExpressionType). IsKind structs t kind) (same_Some type t h.1) is)
    ]

    met_old : slice_get kinds n ≡ Some kind → AreMet structs (types ++ Some type ∷ []) kinds (numbers ++ n ∷ [])
    met_old there = record {
      same_length = omega (arith, met.same_length, length_push numbers n, length_push types (Some type));
      numbered = numbered_last kinds there (λ i k e. e);
      unmet = unmet_more (Some type) n (λ e. absurd (none-some type (sym e)));
      distinct = met.distinct;
      first = λ number within. let x = met.first number within in (x.0, first_kept (Some type) n number x.0 x.1);
    }

    met_new : n ≡ length kinds → ((i : ℕ) → ¬ (slice_get kinds i ≡ Some kind)) → AreMet structs (types ++ Some type ∷ []) (kinds ++ kind ∷ []) (numbers ++ n ∷ [])
    met_new last nowhere = record {
      same_length = omega (arith, met.same_length, length_push numbers n, length_push types (Some type));
      numbered = numbered_last (kinds ++ kind ∷ []) (ap (slice_get (kinds ++ kind ∷ [])) last ∙ slice_get-last kinds kind)
          (λ i k e. slice_get-front kinds kind i (slice_get_within kinds i k e) ∙ e);
      unmet = unmet_more (Some type) n (λ e. absurd (none-some type (sym e)));
      distinct = λ i j k e f. elim (get_push kinds kind i k e) [
        | inl x ↦ elim (get_push kinds kind j k f) [ inl y ↦ met.distinct i j k x.1 y.1 | inr y ↦ absurd (nowhere i (x.1 ∙ ap Some (sym y.1))) ]
        | inr x ↦ elim (get_push kinds kind j k f) [ inl y ↦ absurd (nowhere j (y.1 ∙ ap Some (sym x.1))) | inr y ↦ x.0 ∙ sym y.0 ]
      ];
      first = λ number within. elim (eq-or-lt_of_le (below number within)) [
        | inl same ↦ (length types, subst (λ k. IsFirstMet (types ++ Some type ∷ []) (numbers ++ n ∷ []) k (length types)) (last ∙ sym same) (first_new type n last))
        | inr less ↦ let x = met.first number less in (x.0, first_kept (Some type) n number x.0 x.1)
      ];
    }
      where
        below : (number : ℕ) → number < length (kinds ++ kind ∷ []) → number ≤ length kinds
        below number within = omega (arith, within, length_push kinds kind)

  pub AreMet-next : (t : Option ExpressionType) (later : List Kind) (n : ℕ) → IsNext structs t kinds later n → AreMet structs (types ++ t ∷ []) later (numbers ++ n ∷ [])
  AreMet-next None later n h = subst (λ ks. AreMet structs (types ++ None ∷ []) ks (numbers ++ n ∷ [])) (sym h.0) (met_none n h.1)
  AreMet-next (Some type) later n h = elim h.2 [
    | inl old ↦ subst (λ ks. AreMet structs (types ++ Some type ∷ []) ks (numbers ++ n ∷ [])) (sym old.0) (met_old type h.0 h.1 n old.1)
    | inr new ↦ subst (λ ks. AreMet structs (types ++ Some type ∷ []) ks (numbers ++ n ∷ [])) (sym new.0) (met_new type h.0 h.1 n new.1 new.2)
  ]

-- the next token of a list
pub AreMet-more : (structs : List StructTree) (types : Types) (i : ℕ) (d : Option ExpressionType) (kinds later : List Kind) (numbers more : List ℕ) (n : ℕ) → i < length types
    → AreMet structs (take i types) kinds numbers → IsNext structs (get_or types i d) kinds later n → more ≡ numbers ++ n ∷ [] → AreMet structs (take (i + 1) types) later more
AreMet-more structs types i d kinds later numbers more n within met next pushed =
    subst (λ ns. AreMet structs (take (i + 1) types) later ns) (sym pushed)
    (subst (λ ts. AreMet structs ts later (numbers ++ n ∷ [])) (sym (take_more types i d within))
    (AreMet-next structs (take i types) kinds numbers met (get_or types i d) later n next))
