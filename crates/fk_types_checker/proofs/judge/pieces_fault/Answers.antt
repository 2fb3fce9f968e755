use Rattle.std.specs.List.{fold}
use Rattle.std.proofs.lemmas.List.{at_drop_all, length-map}
use Rattle.std.proofs.Common.{ℕ, ◌+◌, map, drop, refl, sym, ap, ◌∙◌, arith}
use Rattle.fk_check_rules.proofs.LeastLemmas.{IsLeast-none_first, IsLeast-one_more, IsLeast-whole}
use Rattle.fk_types_name_rules.proofs.ListLemmas.{map_at}
use Rattle.fk_types_forms.specs.Scope.{env_in}
use Rattle.fk_types_expressions.specs.Read.{with_note}
use Rattle.fk_types_obligations.specs.View.{piece_of}
use Rattle.fk_types_rules.specs.Noted.{pieces_noted}
use Rattle.fk_types_rules.specs.Pieces.{PieceBreaks}
use Rattle.fk_types_checker.proofs.PieceLemmas.{piece-step}
use Rattle.fk_types_checker.proofs.judge.pieces_fault.Goals as goal

pub loop-piece-init : goal.loop-piece-init
loop-piece-init c = record {
  least = IsLeast-none_first (λ i. PieceBreaks (env_in c.args.scope.now)) (map piece_of c.args.pieces.now);
  types = refl;
}

pub loop-piece-preserved : goal.loop-piece-preserved
loop-piece-preserved c =
    let E = env_in c.args.scope.now in
    let xs = c.args.pieces.now in
    let i = c.loop-piece.piece-index in
    let piece = c.piece-item.result in
    let here = map_at piece_of xs i piece c.loop-piece-test.true c.piece-item.is in
    let read = c.piece_fault.ensures in
    record {
      least = IsLeast-one_more (λ (i : ℕ). PieceBreaks E) (map piece_of xs) i (piece_of piece) here c.loop-piece.fault c.piece_fault.result c.first_of-fault.result
          c.loop-piece.invariant.least read.least c.first_of-fault.ensures;
      types = ap (λ types. fold with_note types (pieces_noted E (map piece_of (drop (i + 1) xs)))) read.types
          ∙ sym (piece-step E c.loop-piece.types xs i piece c.loop-piece-test.true c.piece-item.is) ∙ c.loop-piece.invariant.types;
    }

pub returns : goal.returns
returns c =
    let E = env_in c.args.scope.now in
    let xs = c.args.pieces.now in
    let i = c.loop-piece.piece-index in
    let n = length-map xs piece_of in
    record {
      least = IsLeast-whole (λ (i : ℕ). PieceBreaks E) (map piece_of xs) i (omega (arith, n)) c.loop-piece.fault c.loop-piece.invariant.least;
      types = sym (at_drop_all (λ ps. fold with_note c.loop-piece.types (pieces_noted E (map piece_of ps))) xs i c.loop-piece-test.false) ∙ c.loop-piece.invariant.types;
    }
