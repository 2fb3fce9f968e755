-- Pieces that may lack a part, and pieces one after the other.
use Rattle.std.specs.List.{fold}
use Rattle.std.proofs.lemmas.List.{at_drop_more}
use Rattle.std.proofs.Common.{◌≡◌, inl, inr, ℕ, ◌+◌, ◌<◌, List, ◌∷◌, ◌++◌, map, drop, length, get_or, Option, Some, None, append-nil, sym, ap, subst, ◌∙◌}
use Rattle.fk_syntax.specs.Tree.{Tree}
use Rattle.fk_check_rules.specs.declared.fault.Fault.{Fault}
use Rattle.fk_check_rules.specs.Least.{Breaks, IsLeast, either}
use Rattle.fk_check_rules.proofs.LeastLemmas.{IsLeast-same}
use Rattle.fk_types_operators.specs.declared.values.ExpressionType.{ExpressionType}
use Rattle.fk_types_judgments.specs.Term.{Term, term_of}
use Rattle.fk_types_judgments.specs.Names.{Env}
use Rattle.fk_types_judgments.specs.Typing.{Noted, noted}
use Rattle.fk_types_judgments.specs.Broken.{nothing}
use Rattle.fk_types_expressions.specs.Read.{with_note}
use Rattle.fk_types_expressions.proofs.ReadLemmas.{notes-append, notes-two}
use Rattle.fk_types_obligations.specs.declared.piece.Piece.{Piece}
use Rattle.fk_types_obligations.specs.View.{piece_of}
use Rattle.fk_types_rules.specs.Noted.{optional_noted, piece_noted, pieces_noted}
use Rattle.fk_types_rules.specs.Pieces.{if_there}

-- ---- what a piece breaks whose value is there, or isn't
module _ (own : Breaks) (inner : Term → Breaks) (first : Option Tree) (r : Option Fault) where
  pub least-there : (value : Tree) → first ≡ Some value → IsLeast (either own (inner (term_of value))) r → IsLeast (either own (if_there inner first)) r
  least-there value is l = subst (λ o. IsLeast (either own (if_there inner o)) r) (sym is) l

  pub least-absent : first ≡ None → IsLeast own r → IsLeast (either own (if_there inner first)) r
  least-absent is l = subst (λ o. IsLeast (either own (if_there inner o)) r) (sym is)
      (IsLeast-same own (either own nothing) (λ place rule h. inl h) (λ place rule h. elim h [ inl mine ↦ mine | inr never ↦ absurd never ]) r l)

-- ---- and what is noted of it
module _ (env : Env) (own : List Noted) (first : Option Tree) (start : List (Option ExpressionType)) where
  pub notes-there : (value : Tree) (mid after : List (Option ExpressionType)) → first ≡ Some value → mid ≡ fold with_note start own → after ≡ fold with_note mid (noted env (term_of value))
      → after ≡ fold with_note start (own ++ optional_noted env first)
  notes-there value mid after is before inside = subst (λ o. after ≡ fold with_note start (own ++ optional_noted env o)) (sym is)
      (notes-two start mid after own (noted env (term_of value)) before inside)

  pub notes-absent : (after : List (Option ExpressionType)) → first ≡ None → after ≡ fold with_note start own → after ≡ fold with_note start (own ++ optional_noted env first)
  notes-absent after is before = subst (λ o. after ≡ fold with_note start (own ++ optional_noted env o)) (sym is) (before ∙ ap (fold with_note start) (sym (append-nil own)))

-- ---- one piece more of a list
pub piece-step : (env : Env) (types : List (Option ExpressionType)) (xs : List Piece) (i : ℕ) (x : Piece) → i < length xs → x ≡ get_or xs i x
    → fold with_note types (pieces_noted env (map piece_of (drop i xs))) ≡ fold with_note (fold with_note types (piece_noted env (piece_of x))) (pieces_noted env (map piece_of (drop (i + 1) xs)))
piece-step env types xs i x within is = at_drop_more (λ ps. fold with_note types (pieces_noted env (map piece_of ps))) xs i x within
    ∙ ap (λ (y : Piece). fold with_note types (pieces_noted env (map piece_of (y ∷ drop (i + 1) xs)))) (sym is)
    ∙ sym (notes-append types (piece_noted env (piece_of x)) (pieces_noted env (map piece_of (drop (i + 1) xs))))
