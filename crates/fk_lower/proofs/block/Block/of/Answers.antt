use Rattle.std.proofs.Common.{true, false, rules, ◌≡◌, map, sym, subst}
use Rattle.fk_lower.specs.declared.block.Piece.TheFolds.{the_lemmas}
use Rattle.fk_lower.specs.declared.block.Piece.TheViews.{roll-Block}
use Rattle.fk_lower.specs.declared.span.Spans.{Spans}
use Rattle.fk_lower.specs.Tree.{Part, pieces_of, IsPartMeasured}
use Rattle.fk_lower.specs.View.{piece_of, part_of}
use Rattle.fk_lower.proofs.Measuring.{spans_are}
use Rattle.fk_lower.proofs.Room.{few_room}
use Rattle.fk_lower.proofs.block.Block.of.Goals as goal

pub returns-clause-measured : goal.returns-clause-measured
returns-clause-measured c =
    let m = c.requires.measured in
    let pieces = pieces_of (map piece_of c.args.pieces.items) in
    let spans : Spans = record { far = c.measured-far.result; near = c.measured-near.result } in
    let part : Part = record { pieces = pieces; spans = spans } in
    let same : part_of (roll-Block (record { pieces = c.args.pieces; spans = spans })) ≡ part = search (rules, the_lemmas) in
    subst IsPartMeasured (sym same) (spans_are pieces m c.measured-far.result c.measured-near.result (search rules) (search rules), m)

pub measured-far-requires-clause-room : goal.measured-far-requires-clause-room
measured-far-requires-clause-room c =
    let same : c.deref.result.now ≡ c.args.pieces.items = cc in
    few_room false c.args.pieces.items c.deref.result.now same c.requires.measured c.requires.few

pub measured-near-requires-clause-room : goal.measured-near-requires-clause-room
measured-near-requires-clause-room c =
    let same : c.deref-2.result.now ≡ c.args.pieces.items = cc in
    few_room true c.args.pieces.items c.deref-2.result.now same c.requires.measured c.requires.few
