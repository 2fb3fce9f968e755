-- A token of a well-formed program names one thing at most, and has one type at most.
use Rattle.std.proofs.Common.{◌≡◌, inl, inr, ℕ, ◌+◌, ◌<◌, ◌≤◌, List, length, replicate, fold, Option, Some, None, refl, sym, subst, ap, arith}
use Rattle.std.proofs.lemmas.List.{length-replicate}
use Rattle.std.proofs.lemmas.Option.{slice_get_read}
use Rattle.fk_syntax.specs.Program.{ProgramTree}
use Rattle.fk_syntax.specs.Nodes.{items_indices}
use Rattle.fk_syntax.specs.WellFormed.{IsWellFormed}
use Rattle.fk_types_operators.specs.declared.values.ExpressionType.{ExpressionType}
use Rattle.fk_types_names.specs.Outline.{declarations, name_of}
use Rattle.fk_types_judgments.specs.Names.{Env}
use Rattle.fk_types_judgments.specs.Typing.{Noted}
use Rattle.fk_types_expressions.specs.Read.{with_note}
use Rattle.fk_types_obligations.specs.Pieces.{pieces}
use Rattle.fk_types_rules.specs.Noted.{pieces_noted, HasTypeAt, type_at, AreTypes}
use Rattle.fk_types_rules.specs.Bound.{pieces_references, token_of}
use Rattle.fk_types_rules.specs.Apart.{AreTokensApart}
use Rattle.fk_types_rules.proofs.Counting.{times, node_times, contained, apart, node-once, node-below}
use Rattle.fk_types_rules.proofs.Pieces.{name_token, pieces_named, of_items}
use Rattle.fk_types_rules.proofs.Notes.{note_token, of_pieces}
use Rattle.fk_types_rules.proofs.Table.{type_in, set_once, told, no_type}

module _ (program : ProgramTree) (sound : IsWellFormed program) where
  named_once : (at : ℕ) → times name_token at (declarations program) + times token_of at (pieces_references (pieces program)) ≤ 1
  named_once at =
      let stands = of_items program.items in
      omega (
        arith,
        pieces_named (pieces program) at,
        ap (times name_token at) stands.declared,
        stands.within.count at,
        node-once at (items_indices program.items) sound.distinct,
      )

  pub tokens_apart : AreTokensApart program
  tokens_apart = record {
    declared = apart name_token (declarations program) (λ at. omega (arith, named_once at));
    references = apart token_of (pieces_references (pieces program)) (λ at. omega (arith, named_once at));
    never_both = λ d r there here same. omega (
      arith,
      named_once (name_of d).at,
      contained name_token (declarations program) d there,
      subst (λ at. 1 ≤ times token_of at (pieces_references (pieces program))) (sym same) (contained token_of (pieces_references (pieces program)) r here),
    );
  }

  module _ (env : Env) where
    abbrev notes : List Noted
    notes = pieces_noted env (pieces program)

    abbrev table : List (Option ExpressionType)
    table = replicate program.tokens None

    noted_nodes : (at : ℕ) → times note_token at notes ≤ node_times at (items_indices program.items)
    noted_nodes at = omega (arith, of_pieces env (pieces program) at, (of_items program.items).within.count at)

    noted_type : (at : ℕ) (type : ExpressionType) → HasTypeAt env program at type → type_at (fold with_note table notes) at ≡ Some type
    noted_type at type there =
        let x : Noted = record { at = at; type = Some type } in
        let some = contained note_token notes x there in
        let below : at < program.tokens = node-below program.tokens at (items_indices program.items) sound.below (omega (arith, some, noted_nodes at)) in
        let once : times note_token at notes ≤ 1 = omega (arith, noted_nodes at, node-once at (items_indices program.items) sound.distinct) in
        let untyped : Option ExpressionType = None in
        let is = slice_get_read notes (length notes) there.0 x refl there.1 (sym there.2) in
        ap type_in (set_once table notes x there.0 is once (omega (arith, below, length-replicate program.tokens untyped)))

    pub are_types : AreTypes env program (fold with_note table notes)
    are_types = record {
      told = λ at type is. elim (told table notes at type is) [ inl before ↦ absurd (no_type program.tokens at type before) | inr there ↦ there ];
      all = noted_type;
    }
