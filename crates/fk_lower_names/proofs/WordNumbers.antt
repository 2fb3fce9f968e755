-- The numbers that notes and kinds tell of a correct program: what tokens name, and the words and steps of types.
use Rattle.std.proofs.Common.{◌≡◌, inl, inr, ℕ, zero, suc, ◌^◌, ◌<◌, ◌≤◌, List, [], ◌∷◌, All, length, get_or, Option, Some, None, slice_get, sym, ap, subst, ◌∙◌, arith}
use Rattle.std.proofs.lemmas.Bool.{cases_lt}
use Rattle.std.proofs.lemmas.List.Elements.{All-from_get_or}
use Rattle.std.proofs.lemmas.Option.{same_Some, slice_get_within}
use Rattle.fk_syntax.specs.declared.facts.Facts.{Facts}
use Rattle.fk_syntax.specs.declared.facts.Kind.{Kind}
use Rattle.fk_syntax.specs.declared.facts.Note.{Note}
use Rattle.fk_syntax.specs.Program.{ProgramTree}
use Rattle.fk_types_names.specs.Outline.{DeclarationTree, MarkTree, Variable, Header, Opens, Closes, Declares, Uses, outline}
use Rattle.fk_types_names.specs.Means.{Denotes, DefinesHere, binding}
use Rattle.fk_types_name_rules.proofs.ListLemmas.{some_at, at_some}
use Rattle.fk_types_structs.specs.Types.{StructTree}
use Rattle.fk_types_structs.specs.declared.types.DataType.{DataType}
use Rattle.fk_types_operators.specs.declared.values.Target.{Target}
use Rattle.fk_types_operators.specs.declared.values.Value.{Value}
use Rattle.fk_types_operators.specs.declared.values.Value.TheVariants.{Int, Unsigned, Pointer}
use Rattle.fk_types_operators.specs.declared.values.ExpressionType.{ExpressionType}
use Rattle.fk_types_operators.specs.declared.values.ExpressionType.TheVariants.{Stored, Computed, Nothing}
use Rattle.fk_types_operators.specs.Values.{value_under}
use Rattle.fk_types_rules.specs.Kinds.{IsWords, IsStep, IsValueKind, IsPlainKind, IsStoredKind, IsKind}
use Rattle.fk_types_references.specs.References.{ReferenceTree}
use Rattle.fk_types_rules.specs.Bound as b
use Rattle.fk_types_rules.specs.Bound.{IsBound, Refers}
use Rattle.fk_types_bindings.proofs.BodyLemmas.{declared_here}
use Rattle.fk_meaning_forms.specs.Tables.{Tables, no_note, note}
use Rattle.fk_layout.specs.Layout.{tables_by}
use Rattle.fk_check_laws.specs.Correct.{IsCorrect}
use Rattle.fk_check_laws.proofs.Named.{env}
use Rattle.fk_check_laws.proofs.Notes.{nth_at, note_at}
use Rattle.fk_check_laws.proofs.Numbers.{number_low}

-- ---- kinds

abbrev IsLow : Kind → Type 0
IsLow kind = (kind.words ≤ 524289) × (kind.step ≤ 2097156)

words_low : (structs : List StructTree) (type : DataType) (words : ℕ) → IsWords structs type words → words ≤ 524289
words_low structs type words (inl h) = omega (arith, h.2)
words_low structs type words (inr h) = omega (arith, h.1)

step_low : (structs : List StructTree) (t : Target) (step : ℕ) → IsStep structs t step → step ≤ 2097156
step_low structs t step h = omega (arith, h.2, words_low structs (record { root = t.root; stars = t.stars; length = None }) h.0 h.1)

low_kind : (kind other : Kind) → kind ≡ other → IsLow other → IsLow kind
low_kind kind other e h = subst IsLow (sym e) h

value_low : (structs : List StructTree) (value : Value) (kind : Kind) → IsValueKind structs value kind → IsLow kind
value_low structs Int kind h = low_kind kind _ h (omega arith, omega arith)
value_low structs Unsigned kind h = low_kind kind _ h (omega arith, omega arith)
value_low structs (Pointer t) kind h = low_kind kind _ h.2 (omega arith, step_low structs t h.0 h.1)

plain_low : (structs : List StructTree) (type : DataType) (value : Option Value) (kind : Kind) → IsPlainKind structs type value kind → IsLow kind
plain_low structs type None kind h = low_kind kind _ h.2 (words_low structs type h.0 h.1, omega arith)
plain_low structs type (Some value) kind h = value_low structs value kind h

stored_low : (structs : List StructTree) (type : DataType) (length : Option ℕ) (kind : Kind) → IsStoredKind structs type length kind → IsLow kind
stored_low structs type None kind h = plain_low structs type (value_under type.root type.stars) kind h
stored_low structs type (Some n) kind h = low_kind kind _ h.4 (words_low structs type h.0 h.2, step_low structs _ h.1 h.3)

kind_low : (structs : List StructTree) (type : ExpressionType) (kind : Kind) → IsKind structs type kind → IsLow kind
kind_low structs (Stored type) kind h = stored_low structs type type.length kind h
kind_low structs (Computed value) kind h = value_low structs value kind h
kind_low structs Nothing kind h = low_kind kind _ h (omega arith, omega arith)

-- ---- what is so of each entry of a table

get_at : {X : Type 0} (other : X) (xs : List X) (i : ℕ) (x : X) → slice_get xs i ≡ Some x → get_or xs i other ≡ x
get_at other [] i x is = absurd (cc)
get_at other (y ∷ xs) zero x is = same_Some y x is
get_at other (y ∷ xs) (suc i) x is = get_at other xs i x is

pub all_entries : {X : Type 0} (other : X) (P : X → Type 0) (xs : List X) → ((i : ℕ) (x : X) → slice_get xs i ≡ Some x → P x) → All P xs
all_entries other P xs go = All-from_get_or P xs other (λ i less. let here = some_at xs i less in subst P (sym (get_at other xs i here.0 here.1)) (go i here.0 here.1))

module _ (program : ProgramTree) (facts : Facts) (valid : IsCorrect program facts) where
  abbrev T : Tables
  T = tables_by program facts

  pub kinds_low : (number : ℕ) (kind : Kind) → slice_get facts.kinds.items number ≡ Some kind → IsLow kind
  kinds_low number kind is =
      let k = valid.known in
      let same : facts.kinds ≡ k.typed.kinds = k.sharing.kinds ∙ k.regions.kinds in
      let there : slice_get k.typed.kinds.items number ≡ Some kind = ap (λ kinds. slice_get kinds.items number) (sym same) ∙ is in
      let met = k.types.known.met number (slice_get_within k.typed.kinds.items number kind there) in
      let here = met.1.here in
      let has = (k.types.known.notes met.0 here.0 here.2).kind here.1 here.3 in
      let one : has.0 ≡ kind = same_Some has.0 kind (sym has.1 ∙ ap (slice_get k.typed.kinds.items) here.4 ∙ there) in
      subst IsLow one (kind_low _ here.1 has.0 has.2)

  -- ---- what tokens name

  pub declared_number : (here meant : ℕ) (d : DeclarationTree) (bytes : List ℕ) → slice_get (outline program) here ≡ Some (Declares d) → Denotes (outline program) bytes here d meant
      → binding (outline program) meant < program.tokens
  declared_number here meant (Variable v) bytes is stands =
      subst (λ (i : ℕ). binding (outline program) i < program.tokens) (sym stands) (number_low program valid.well_formed _ (Variable v) (declared_here (outline program) here (Variable v) is))
  declared_number here meant (Header f) bytes is (inr alone) =
      subst (λ (i : ℕ). binding (outline program) i < program.tokens) (sym alone.0) (number_low program valid.well_formed _ (Header f) (declared_here (outline program) here (Header f) is))
  declared_number here meant (Header f) bytes is (inl defined) = let h = at_some (DefinesHere bytes) (outline program) meant defined.body in by h.0 h.1 h.2
    where
      by : (mark : MarkTree) → slice_get (outline program) meant ≡ Some mark → DefinesHere bytes mark → binding (outline program) meant < program.tokens
      by Opens there h = absurd h
      by Closes there h = absurd h
      by (Uses name) there h = absurd h
      by (Declares (Variable v)) there h = absurd h
      by (Declares (Header g)) there h = number_low program valid.well_formed _ (Header g) (declared_here (outline program) meant (Header g) there)

  refers_low : (r : ReferenceTree) (number : ℕ) → Refers (env program facts valid) program r number → number < 2 ^ 32
  refers_low r number (b.declared name n means) =
      let meant = valid.known.types.right.meant name _ means in
      omega (arith, number_low program valid.well_formed n meant.0 meant.1, valid.small)
  refers_low r number (b.predeclared name means) = omega arith
  refers_low r number (b.member whole is_arrow name type index place words has before named offset) = omega arith
  refers_low r number (b.size spot tree type words spelled has) = omega arith

  bound_low : (at bound : ℕ) → IsBound (env program facts valid) program at bound → bound < 2 ^ 32
  bound_low at bound (b.refers r number among same h) = refers_low r number h
  bound_low at bound (b.declares d here meant is same stands) = omega (arith, declared_number here meant d _ is stands, valid.small)

  -- where all that a token may name is below a limit, its number is
  pub below : (limit : ℕ) → 0 < limit → (at : ℕ) → at < program.tokens → ((bound : ℕ) → IsBound (env program facts valid) program at bound → bound < limit) → (note T at).binding < limit
  below limit some at low all =
      let n = note_at program facts valid at low in
      let same : (note T at).binding ≡ n.old.binding = ap (λ (x : Note). x.binding) n.is in
      let known = valid.known.types.known.notes at n.old n.is_old in
      elim (cases_lt n.old.binding limit) [
        | inl less ↦ omega (arith, same, less)
        | inr more ↦ omega (arith, same, some, more, known.unbound (λ bound h. let e = known.binding bound h in omega (arith, e, all bound h, more)))
      ]

  tokens_same : length facts.notes.items ≡ program.tokens
  tokens_same = let k = valid.known in omega (arith, k.sharing.length, k.regions.length, k.types.known.tokens)

  pub all_notes_low : All (λ (x : Note). x.binding < 2 ^ 32) T.notes
  all_notes_low = all_entries no_note (λ (x : Note). x.binding < 2 ^ 32) T.notes (λ i x is.
      let low : i < program.tokens = omega (arith, slice_get_within facts.notes.items i x is, tokens_same) in
      subst (λ (y : Note). y.binding < 2 ^ 32) (nth_at no_note facts.notes.items i x is) (below (2 ^ 32) (omega arith) i low (bound_low i)))
