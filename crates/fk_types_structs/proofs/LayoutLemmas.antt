-- The layouts of structs, and of one more.
use Rattle.std.proofs.Common.{◌≡◌, ℕ, ◌+◌, ◌<◌, ◌≤◌, List, Bor, take, [], ◌∷◌, ◌++◌, inl, inr, Option, Some, None, is_some, true≢false, length, length-append, slice_get, refl, sym, ap, subst, ◌∙◌, arith}
use Rattle.std.proofs.Math.Nat.{eq-or-lt_of_le}
use Rattle.std.specs.Option.{option_map, option_and_then, option_copied, option_flatten}
use Rattle.std.specs.Prelude.{IfSome, IsNone}
use Rattle.std.proofs.lemmas.Option.{same_Some, slice_get_cases, slice_get_within, slice_get-map, slice_get_past, slice_get_read}
use Rattle.std.proofs.lemmas.Bool.{cases_lt}
use Rattle.std.proofs.lemmas.List.{length-map}
use Rattle.std.specs.Slice.{IsItemAt}
use Rattle.fk_syntax.specs.Program.{DeclaredTree}
use Rattle.fk_types_structs.specs.declared.types.DataType.{DataType}
use Rattle.fk_types_structs.specs.declared.layout.Layout.{Layout}
use Rattle.fk_types_structs.specs.Types.{StructTree, type_declared, member_types, member_type, all_types}
use Rattle.fk_types_structs.specs.Words.{Sizes, total_words, words_within, capped}
use Rattle.fk_types_structs.specs.Table.{sizes_of, AreWords, AreOffsets}
use Rattle.fk_types_structs.specs.Sizes.{HasOffset}
use Rattle.fk_types_structs.specs.Layouts.{IsLayout, AreFirstLayouts, AreLayouts}
use Rattle.fk_types_structs.proofs.WordLemmas.{all_exact, all_none, slice_get-last, slice_get-front, le_of_lt_add_one}

pub AreLayouts-next : (sizes : Sizes) (structs : List StructTree) (i : ℕ) (layouts : List Layout) (layout : Layout) → AreFirstLayouts sizes structs i layouts
    → ((s : StructTree) → slice_get structs i ≡ Some s → IsLayout sizes structs s layout) → AreFirstLayouts sizes structs (i + 1) (layouts ++ layout ∷ [])
AreLayouts-next sizes structs i layouts layout h one = (
  length-append layouts (layout ∷ []) ∙ ap (λ n. n + 1) h.0,
  λ k l s less there at. elim (eq-or-lt_of_le (le_of_lt_add_one k i less)) [
    | inl same ↦ subst (IsLayout sizes structs s)
        (same_Some layout l (sym (slice_get-last layouts layout) ∙ ap (slice_get (layouts ++ layout ∷ [])) (h.0 ∙ sym same) ∙ there))
        (one s (ap (slice_get structs) (sym same) ∙ at))
    | inr before ↦ h.1 k l s before (sym (slice_get-front layouts layout k (omega (arith, before, h.0))) ∙ there) at
  ],
)

-- where there is a layout, there is its struct
pub AreLayouts-at : (sizes : Sizes) (structs : List StructTree) (layouts : List Layout) (index : ℕ) (layout : Layout) → AreLayouts sizes structs layouts → slice_get layouts index ≡ Some layout
    → (s : StructTree) × (slice_get structs index ≡ Some s) × IsLayout sizes structs s layout
AreLayouts-at sizes structs layouts index layout h there = elim (slice_get_cases structs index).1 [
  | inl x ↦ (x.0, x.2, h.1 index layout x.0 x.1 there x.2)
  | inr past ↦ absurd (omega (arith, past.0, h.0, slice_get_within layouts index layout there))
]

-- the members' types are those of the table
pub member_type-at : (structs : List StructTree) (index place : ℕ) → member_type structs index place ≡ option_and_then (λ (ts : List (Option DataType)). option_and_then (λ (t : Option DataType). t) (slice_get ts place)) (slice_get (all_types structs) index)
member_type-at structs index place = by (slice_get structs index) ∙ ap (option_and_then (λ (ts : List (Option DataType)). option_and_then (λ (t : Option DataType). t) (slice_get ts place))) (sym (slice_get-map (member_types structs) structs index))
  where
    one : (o : Option DeclaredTree) → option_and_then (type_declared structs) o ≡ option_and_then (λ (t : Option DataType). t) (option_map (type_declared structs) o)
    one None = refl
    one (Some d) = refl

    by : (o : Option StructTree) → option_and_then (λ (s : StructTree). option_and_then (type_declared structs) (slice_get s.members place)) o
        ≡ option_and_then (λ (ts : List (Option DataType)). option_and_then (λ (t : Option DataType). t) (slice_get ts place)) (option_map (member_types structs) o)
    by None = refl
    by (Some s) = one (slice_get s.members place) ∙ ap (option_and_then (λ (t : Option DataType). t)) (sym (slice_get-map (type_declared structs) s.members place))

-- what capped words say of the exact ones
pub capped-some : (r o : Option ℕ) (Exact : ℕ → Type 0) → r ≡ option_map capped o → ((w : ℕ) → o ≡ Some w → (exact : ℕ) × Exact exact × (capped w ≡ capped exact)) → IfSome r (λ words. (exact : ℕ) × Exact exact × (words ≡ capped exact))
capped-some r None Exact e h = subst (λ v. IfSome v (λ words. (exact : ℕ) × Exact exact × (words ≡ capped exact))) (sym e) tt
capped-some r (Some w) Exact e h = subst (λ v. IfSome v (λ words. (exact : ℕ) × Exact exact × (words ≡ capped exact))) (sym e) (h w refl)

pub capped-none : (r o : Option ℕ) → r ≡ option_map capped o → IsNone r → o ≡ None
capped-none r None e n = refl
capped-none r (Some w) e n = absurd (true≢false (sym (ap is_some e) ∙ n))

-- an element that was asked for
pub item-slice_get : {X : Type 0} (xs : List X) (i : ℕ) (r : Option (Bor X)) → IsItemAt xs i r → option_copied r ≡ slice_get xs i
item-slice_get xs i None h = sym (slice_get_past xs i h.3)
item-slice_get xs i (Some x) h = sym (slice_get_read xs (length xs) i x.now refl h.3.0 h.1)

-- offsets by the tables
module _ (structs : List StructTree) (index place : ℕ) (s : StructTree) (at : slice_get structs index ≡ Some s) (table offsets : List (Option ℕ))
    (full : AreWords (all_types structs) table) (all : AreOffsets (sizes_of table) (member_types structs s) offsets) (r : Option ℕ) (is : r ≡ option_flatten (slice_get offsets place)) where
  same_length : length (member_types structs s) ≡ length s.members
  same_length = length-map s.members (type_declared structs)

  inside : place < length (member_types structs s) → r ≡ option_map capped (total_words (sizes_of table) (take place (member_types structs s)))
  inside l = is ∙ ap option_flatten (all.1 place l)

  outside : length (member_types structs s) ≤ place → r ≡ None
  outside l = is ∙ ap option_flatten (slice_get_past offsets place (omega (arith, l, all.0)))

  pub offset-some : IfSome r (λ words. (exact : ℕ) × HasOffset structs index place exact × (words ≡ capped exact))
  offset-some = elim (cases_lt place (length (member_types structs s))) [
    | inl l ↦ capped-some r (total_words (sizes_of table) (take place (member_types structs s))) (HasOffset structs index place) (inside l)
        (λ w e. let x = all_exact (all_types structs) table full (take place (member_types structs s)) w e in
        let less : place < length s.members = omega (arith, l, same_length) in (x.0, (s, at, less, x.1), x.2))
    | inr l ↦ subst (λ v. IfSome v (λ words. (exact : ℕ) × HasOffset structs index place exact × (words ≡ capped exact))) (sym (outside l)) tt
  ]

  pub offset-none : IsNone r → (exact : ℕ) → HasOffset structs index place exact → ⊥
  offset-none none exact h =
      let same : h.0 ≡ s = same_Some h.0 s (sym h.1 ∙ at) in
      let l : place < length (member_types structs s) = omega (arith, same_length, subst (λ (t : StructTree). place < length t.members) same h.2) in
      let words = subst (λ (t : StructTree). total_words (words_within h.3.0 (all_types structs)) (take place (member_types structs t)) ≡ Some exact) same h.3.1 in
      all_none (all_types structs) table full (take place (member_types structs s)) (capped-none r (total_words (sizes_of table) (take place (member_types structs s))) (inside l) none) exact h.3.0 words

pub flatten-and_then : {X : Type 0} (o : Option (Option X)) → option_flatten o ≡ option_and_then (λ (x : Option X). x) o
flatten-and_then None = refl
flatten-and_then (Some x) = refl
