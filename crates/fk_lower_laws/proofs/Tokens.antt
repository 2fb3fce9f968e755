-- What is noted of the types of tokens: whether a value is there.
use Rattle.std.proofs.Common.{◌≡◌, inl, inr, ℕ, zero, suc, ◌≤◌, true, false, List, Option, Some, None, refl, ap, arith}
use Rattle.std.specs.Prelude.{◌==◌, is_some}
use Rattle.std.proofs.lemmas.Bool.{false≢true, ne_eqb}
use Rattle.fk_syntax.specs.declared.facts.Facts.{Facts}
use Rattle.fk_syntax.specs.declared.facts.Kind.{Kind}
use Rattle.fk_syntax.specs.Program.{ProgramTree}
use Rattle.fk_types_structs.specs.declared.types.Root.{Root}
use Rattle.fk_types_structs.specs.declared.types.Root.TheVariants as r
use Rattle.fk_types_structs.specs.declared.types.DataType.{DataType}
use Rattle.fk_types_structs.specs.Types.{StructTree}
use Rattle.fk_types_structs.specs.Sizes.{HasTypeWords}
use Rattle.fk_types_operators.specs.declared.values.Value.TheVariants.{Int, Unsigned, Pointer}
use Rattle.fk_types_operators.specs.declared.values.ExpressionType.{ExpressionType}
use Rattle.fk_types_operators.specs.declared.values.ExpressionType.TheVariants.{Stored, Computed, Nothing}
use Rattle.fk_types_operators.specs.Values.{target}
use Rattle.fk_types_judgments.specs.Names.{Env}
use Rattle.fk_types_judgments.specs.Typing.{left_of}
use Rattle.fk_types_rules.specs.Kinds.{IsWords, IsStoredKind, IsKind}
use Rattle.fk_meaning_forms.specs.Tables.{Tables, kind_at, is_void}
use Rattle.fk_check_laws.specs.Correct.{IsCorrect}
use Rattle.fk_check_laws.proofs.Notes.{tables}
use Rattle.fk_check_laws.proofs.Named.{env}
use Rattle.fk_lower_laws.specs.Typed.{IsNothing}
use Rattle.fk_lower_names.proofs.Sizes.{IsSound, one_size}
use Rattle.fk_lower_names.proofs.NotedTypes.{value_word, NotedAt, kind_is}

module _ (structs : List StructTree) where
  -- a type that an expression has may be declared, where it is that of an array
  abbrev pub IsSoundType : ExpressionType → Type 0
  IsSoundType (Stored type) = is_some type.length ≡ true → IsSound structs type
  IsSoundType type = Unit {0}

  -- what is a value or nothing has words, or none
  abbrev IsTold : ExpressionType → Kind → Type 0
  IsTold type kind = (kind.words == 0) ≡ IsNothing type

  some_words : (kind : Kind) → 1 ≤ kind.words → (kind.words == 0) ≡ false
  some_words kind some = ne_eqb kind.words 0 (λ e. omega (arith, e, some))

  module _ (have_words : (type : DataType) → IsSound structs type → (w : ℕ) × HasTypeWords structs type w × (1 ≤ w)) where
    array_told : (type : DataType) (kind : Kind) (words : ℕ) → IsSound structs type → kind.words ≡ words → IsWords structs type words → IsTold (Stored type) kind
    array_told type kind words sound same (inl h) =
        let has = have_words type sound in
        some_words kind (omega (arith, same, h.2, has.2, one_size structs type h.0 has.0 h.1 has.1))
    array_told type kind words sound same (inr h) = let has = have_words type sound in absurd (h.0 has.0 has.1)

    stored_told : (root : Root) (stars : ℕ) (length : Option ℕ) (kind : Kind) → let type : DataType = record { root = root; stars = stars; length = length } in
        (is_some length ≡ true → IsSound structs type) → is_some (left_of (Stored type)) ≡ true → IsStoredKind structs type length kind → IsTold (Stored type) kind
    stored_told root stars (Some n) kind sound some h = array_told (record { root = root; stars = stars; length = Some n }) kind h.0 (sound refl) (ap (λ (k : Kind). k.words) h.4) h.2
    stored_told r.Int zero None kind sound some h = some_words kind (omega (arith, value_word structs Int kind h))
    stored_told r.Unsigned zero None kind sound some h = some_words kind (omega (arith, value_word structs Unsigned kind h))
    stored_told r.Void zero None kind sound some h = absurd (false≢true some)
    stored_told (r.Struct i) zero None kind sound some h = absurd (false≢true some)
    stored_told r.Int (suc stars) None kind sound some h = some_words kind (omega (arith, value_word structs (Pointer (target r.Int stars)) kind h))
    stored_told r.Unsigned (suc stars) None kind sound some h = some_words kind (omega (arith, value_word structs (Pointer (target r.Unsigned stars)) kind h))
    stored_told r.Void (suc stars) None kind sound some h = some_words kind (omega (arith, value_word structs (Pointer (target r.Void stars)) kind h))
    stored_told (r.Struct i) (suc stars) None kind sound some h = some_words kind (omega (arith, value_word structs (Pointer (target (r.Struct i) stars)) kind h))

    kind_told : (type : ExpressionType) (kind : Kind) → IsSoundType type → is_some (left_of type) ≡ true → IsKind structs type kind → IsTold type kind
    kind_told (Stored type) kind sound some h = stored_told type.root type.stars type.length kind sound some h
    kind_told (Computed value) kind sound some h = some_words kind (omega (arith, value_word structs value kind h))
    kind_told Nothing kind sound some h = ap (λ (k : Kind). k.words == 0) h

-- ---- tokens

module _ (program : ProgramTree) (facts : Facts) (valid : IsCorrect program facts) where
  abbrev E : Env
  E = env program facts valid

  abbrev T : Tables
  T = tables program facts valid

  pub void_is : ((type : DataType) → IsSound E.structs type → (w : ℕ) × HasTypeWords E.structs type w × (1 ≤ w)) → (at : ℕ) (type : ExpressionType) → NotedAt program facts valid at (Some type)
      → IsSoundType E.structs type → is_some (left_of type) ≡ true → is_void T at ≡ IsNothing type
  void_is have_words at type there sound some = kind_told E.structs have_words type (kind_at T at) sound some (kind_is program facts valid at type there)
