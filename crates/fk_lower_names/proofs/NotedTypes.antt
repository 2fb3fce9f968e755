-- What is noted of the types of tokens: how many words they have, and whether they are those of arrays.
use Rattle.std.proofs.Common.{◌≡◌, inl, inr, ℕ, zero, suc, ◌<◌, ◌≤◌, true, List, Option, Some, None, slice_get, Contains, sym, ap, subst, ◌∙◌, arith}
use Rattle.std.specs.Prelude.{is_some}
use Rattle.std.proofs.lemmas.Bool.{false≢true}
use Rattle.std.proofs.lemmas.Option.{same_Some}
use Rattle.fk_syntax.specs.declared.facts.Facts.{Facts}
use Rattle.fk_syntax.specs.declared.facts.Kind.{Kind}
use Rattle.fk_syntax.specs.declared.facts.Note.{Note}
use Rattle.fk_syntax.specs.Program.{ProgramTree}
use Rattle.fk_syntax.specs.Nodes.{items_indices}
use Rattle.fk_types_structs.specs.declared.types.Root.{Root}
use Rattle.fk_types_structs.specs.declared.types.Root.TheVariants as r
use Rattle.fk_types_structs.specs.declared.types.DataType.{DataType}
use Rattle.fk_types_structs.specs.Types.{StructTree}
use Rattle.fk_types_structs.specs.Sizes.{HasTypeWords}
use Rattle.fk_types_operators.specs.declared.values.Value.{Value}
use Rattle.fk_types_operators.specs.declared.values.Value.TheVariants.{Int, Unsigned, Pointer}
use Rattle.fk_types_operators.specs.declared.values.ExpressionType.{ExpressionType}
use Rattle.fk_types_operators.specs.declared.values.ExpressionType.TheVariants.{Stored}
use Rattle.fk_types_operators.specs.Values.{target, value_under}
use Rattle.fk_types_judgments.specs.Names.{Env}
use Rattle.fk_types_judgments.specs.Typing.{Noted}
use Rattle.fk_types_obligations.specs.Pieces.{pieces}
use Rattle.fk_types_rules.specs.Kinds.{IsWords, IsValueKind, IsPlainKind, IsStoredKind, IsKind}
use Rattle.fk_types_rules.specs.Noted.{pieces_noted, HasTypeAt}
use Rattle.fk_types_rules.proofs.Counting.{contained, node-below}
use Rattle.fk_types_rules.proofs.Notes.{note_token, of_pieces}
use Rattle.fk_types_rules.proofs.Pieces.{of_items}
use Rattle.fk_meaning_forms.specs.Tables.{Tables, no_kind, note, kind_at, is_array}
use Rattle.fk_check_laws.specs.Correct.{IsCorrect}
use Rattle.fk_check_laws.proofs.Notes.{tables, nth_at, note_at}
use Rattle.fk_check_laws.proofs.Named.{env}
use Rattle.fk_lower_names.proofs.Sizes.{one_size}

-- ---- kinds

module _ (structs : List StructTree) where
  words_are : (type : DataType) (w words : ℕ) → HasTypeWords structs type w → w ≤ 524288 → IsWords structs type words → words ≡ w
  words_are type w words has few (inl h) = omega (arith, h.2, one_size structs type h.0 w h.1 has, few)
  words_are type w words has few (inr h) = absurd (h.0 w has)

  -- a value has one word
  abbrev one : Option ℕ
  one = Some 1

  one_word : (w : ℕ) → one ≡ Some w → w ≡ 1
  one_word w e = sym (same_Some 1 w e)

  pub value_word : (value : Value) (kind : Kind) → IsValueKind structs value kind → kind.words ≡ 1
  value_word Int kind h = ap (λ (k : Kind). k.words) h
  value_word Unsigned kind h = ap (λ (k : Kind). k.words) h
  value_word (Pointer t) kind h = ap (λ (k : Kind). k.words) h.2

  plain_words : (root : Root) (stars : ℕ) (kind : Kind) (w : ℕ) → let type : DataType = record { root = root; stars = stars; length = None } in
      HasTypeWords structs type w → w ≤ 524288 → IsPlainKind structs type (value_under root stars) kind → kind.words ≡ w
  plain_words r.Int zero kind w has few h = value_word Int kind h ∙ sym (one_word w has.1)
  plain_words r.Unsigned zero kind w has few h = value_word Unsigned kind h ∙ sym (one_word w has.1)
  plain_words r.Void zero kind w has few h = ap (λ (k : Kind). k.words) h.2 ∙ words_are (record { root = r.Void; stars = 0; length = None }) w h.0 has few h.1
  plain_words (r.Struct i) zero kind w has few h = ap (λ (k : Kind). k.words) h.2 ∙ words_are (record { root = r.Struct i; stars = 0; length = None }) w h.0 has few h.1
  plain_words r.Int (suc stars) kind w has few h = value_word (Pointer (target r.Int stars)) kind h ∙ sym (one_word w has.1)
  plain_words r.Unsigned (suc stars) kind w has few h = value_word (Pointer (target r.Unsigned stars)) kind h ∙ sym (one_word w has.1)
  plain_words r.Void (suc stars) kind w has few h = value_word (Pointer (target r.Void stars)) kind h ∙ sym (one_word w has.1)
  plain_words (r.Struct i) (suc stars) kind w has few h = value_word (Pointer (target (r.Struct i) stars)) kind h ∙ sym (one_word w has.1)

  stored_words : (root : Root) (stars : ℕ) (length : Option ℕ) (kind : Kind) (w : ℕ) → let type : DataType = record { root = root; stars = stars; length = length } in
      HasTypeWords structs type w → w ≤ 524288 → IsStoredKind structs type length kind → kind.words ≡ w
  stored_words root stars None kind w has few h = plain_words root stars kind w has few h
  stored_words root stars (Some n) kind w has few h = ap (λ (k : Kind). k.words) h.4 ∙ words_are (record { root = root; stars = stars; length = Some n }) w h.0 has few h.2

  pub kind_words : (type : DataType) (kind : Kind) (w : ℕ) → HasTypeWords structs type w → w ≤ 524288 → IsKind structs (Stored type) kind → kind.words ≡ w
  kind_words type kind w has few h = stored_words type.root type.stars type.length kind w has few h

  array_kind : (type : DataType) (length : Option ℕ) (kind : Kind) → is_some length ≡ true → IsStoredKind structs type length kind → kind.array ≡ true
  array_kind type None kind some h = absurd (false≢true some)
  array_kind type (Some n) kind some h = ap (λ (k : Kind). k.array) h.4

-- ---- tokens

module _ (program : ProgramTree) (facts : Facts) (valid : IsCorrect program facts) where
  abbrev E : Env
  E = env program facts valid

  abbrev T : Tables
  T = tables program facts valid

  -- a type is noted at its token
  abbrev pub Noting : Noted → Type 0
  Noting x = Contains (pieces_noted E (pieces program)) x

  abbrev pub NotedAt : (at : ℕ) → Option ExpressionType → Type 0
  NotedAt at type = Noting (record { at = at; type = type })

  typed_low : (at : ℕ) (type : ExpressionType) → HasTypeAt E program at type → at < program.tokens
  typed_low at type there =
      let notes = pieces_noted E (pieces program) in
      let x : Noted = record { at = at; type = Some type } in
      node-below program.tokens at (items_indices program.items) valid.well_formed.below
      (omega (arith, contained note_token notes x there, of_pieces E (pieces program) at, (of_items program.items).within.count at))

  pub kind_is : (at : ℕ) (type : ExpressionType) → NotedAt at (Some type) → IsKind E.structs type (kind_at T at)
  kind_is at type there =
      let n = note_at program facts valid at (typed_low at type there) in
      let k = valid.known in
      let has = (k.types.known.notes at n.old n.is_old).kind type there in
      let same : facts.kinds ≡ k.typed.kinds = k.sharing.kinds ∙ k.regions.kinds in
      let number : (note T at).kind ≡ n.old.kind = ap (λ (m : Note). m.kind) n.is in
      let here : slice_get facts.kinds.items (note T at).kind ≡ Some has.0 =
      ap (slice_get facts.kinds.items) number ∙ ap (λ kinds. slice_get kinds.items n.old.kind) same ∙ has.1 in
      subst (IsKind E.structs type) (sym (nth_at no_kind facts.kinds.items (note T at).kind has.0 here)) has.2

  pub array_is : (at : ℕ) (type : DataType) → NotedAt at (Some (Stored type)) → is_some type.length ≡ true → is_array T at ≡ true
  array_is at type there some = array_kind E.structs type type.length (kind_at T at) some (kind_is at (Stored type) there)
