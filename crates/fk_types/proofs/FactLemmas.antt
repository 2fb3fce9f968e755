-- The facts of a program, by its tables.
use Rattle.std.proofs.Common.{◌≡◌, ℕ, ◌<◌, List, length, Option, Some, None, slice_get, refl, sym, ap, subst, ◌∙◌}
use Rattle.std.proofs.lemmas.Option.{same_Some}
use Rattle.fk_syntax.specs.declared.facts.Note.{Note}
use Rattle.fk_syntax.specs.declared.facts.Kind.{Kind}
use Rattle.fk_syntax.specs.declared.facts.Facts.{Facts}
use Rattle.fk_syntax.specs.Program.{ProgramTree}
use Rattle.fk_types_operators.specs.declared.values.ExpressionType.{ExpressionType}
use Rattle.fk_types_judgments.specs.Names.{Env}
use Rattle.fk_types_rules.specs.Kinds.{IsKind}
use Rattle.fk_types_rules.specs.Noted.{HasTypeAt, type_at, AreTypes}
use Rattle.fk_types_rules.specs.Bound.{IsBound, AreBound, AreUnbound}
use Rattle.fk_types_rules.specs.Facts.{IsNote, IsMetAt, AreFactsIn}
use Rattle.fk_types_kinds.specs.Met.{IsFirstMet, AreMet}
use Rattle.fk_types.specs.Notes.{notes_of}
use Rattle.fk_types.proofs.NoteLemmas.{length-notes_of, IsNoteOf, note_at, note_there}

module _ (env : Env) (program : ProgramTree) (types : List (Option ExpressionType)) (kinds : List Kind) (numbers bindings : List ℕ)
    (told : AreTypes env program types) (met : AreMet env.structs types kinds numbers) (bound : AreBound env program bindings) (unbound : AreUnbound env program bindings)
    (same : length bindings ≡ length numbers) where
  kind_at : (at : ℕ) (note : Note) → IsNoteOf numbers bindings at note → (type : ExpressionType) → HasTypeAt env program at type
      → (kind : Kind) × (slice_get kinds note.kind ≡ Some kind) × IsKind env.structs type kind
  kind_at at note is type has =
      let x = met.numbered at type (told.all at type has) in
      let number : x.0 ≡ note.kind = same_Some x.0 note.kind (sym x.2 ∙ is.kind) in
      (x.1, ap (slice_get kinds) (sym number) ∙ x.3, x.4)

  -- a token without a type has none in the table
  no_type : (at : ℕ) → ((type : ExpressionType) → ¬ HasTypeAt env program at type) → type_at types at ≡ None
  no_type at none = by (type_at types at) refl
    where
      by : (o : Option ExpressionType) → type_at types at ≡ o → type_at types at ≡ None
      by None e = e
      by (Some type) e = absurd (none type (told.told at type e))

  is_note : (at : ℕ) (note : Note) → slice_get (notes_of numbers bindings) at ≡ Some note → IsNote env program kinds at note
  is_note at note there =
      let is = note_at numbers bindings at note there in
      record {
        kind = kind_at at note is;
        binding = λ b h. same_Some note.binding b (sym is.binding ∙ bound at b h);
        untyped = λ none. met.unmet at note.kind (no_type at none) is.kind;
        unbound = λ none. unbound at note.binding none is.binding;
        sync = is.sync;
        shared = is.shared;
        splits = is.splits;
      }

  is_met_at : (number at : ℕ) → IsFirstMet types numbers number at → IsMetAt env program (notes_of numbers bindings) number at
  is_met_at number at h =
      let x = note_there numbers bindings same at number h.here in
      record {
        here = (x.0, h.has_type.0, x.1, told.told at h.has_type.0 h.has_type.1, x.2);
        first = λ before note type less there has. h.first before note.kind type less (told.all before type has) (note_at numbers bindings before note there).kind;
      }

  known : (facts : Facts) → length types ≡ program.tokens → facts.notes.items ≡ notes_of numbers bindings → facts.kinds.items ≡ kinds → AreFactsIn env program facts
  known facts tokens notes list = record {
    tokens = ap length notes ∙ length-notes_of numbers bindings same ∙ met.same_length ∙ tokens;
    notes = λ at note there. subst (λ ks. IsNote env program ks at note) (sym list) (is_note at note (sym (ap (λ ns. slice_get ns at) notes) ∙ there));
    distinct = λ i j kind e f. met.distinct i j kind (sym (ap (λ ks. slice_get ks i) list) ∙ e) (sym (ap (λ ks. slice_get ks j) list) ∙ f);
    met = λ number within.
        let x = met.first number (subst (λ ks. number < length ks) list within) in
        (x.0, subst (λ ns. IsMetAt env program ns number x.0) (sym notes) (is_met_at number x.0 x.1));
  }

-- the facts that are made of tables of a program are its own
pub AreFactsIn-by : (env : Env) (program : ProgramTree) (types : List (Option ExpressionType)) (facts : Facts) (kinds : List Kind) (numbers bindings : List ℕ)
    → length types ≡ program.tokens → AreTypes env program types → AreMet env.structs types kinds numbers → AreBound env program bindings → AreUnbound env program bindings → length bindings ≡ length numbers
    → facts.notes.items ≡ notes_of numbers bindings → facts.kinds.items ≡ kinds → AreFactsIn env program facts
AreFactsIn-by env program types facts kinds numbers bindings tokens told met bound unbound same notes list = known env program types kinds numbers bindings told met bound unbound same facts tokens notes list
