use Rattle.std.proofs.Common.{rules, ◌≡◌, map, ap, arith}
use Rattle.fk_lower.specs.declared.block.Piece.TheFolds.{the_lemmas}
use Rattle.fk_lower.specs.declared.span.Span.{Span}
use Rattle.fk_lower.specs.Tree.{Pieces, pieces_of}
use Rattle.fk_lower.specs.View.{piece_of, part_of}
use Rattle.fk_lower.specs.Measures.{measured}
use Rattle.fk_lower.proofs.Room.{measured_span}
use Rattle.fk_lower.proofs.block.Block.rests.Goals as goal

pub rests-requires-clause-room : goal.rests-requires-clause-room
rests-requires-clause-room c =
    let part = part_of c.args.self.now in
    let e = ap (λ (span : Span). span.extent) (measured_span part c.args.near c.requires.measured) in
    let same : part.pieces ≡ pieces_of (map piece_of c.deref.result.now) = search (rules, the_lemmas) in
    let f = ap (λ (pieces : Pieces). (measured c.args.near pieces).extent) same in
    let room = c.requires.room in
    omega (arith, e, f, room)
