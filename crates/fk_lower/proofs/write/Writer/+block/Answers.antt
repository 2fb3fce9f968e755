use Rattle.std.proofs.Common.{rules, ◌≡◌, ◌+◌, ◌++◌, List, map, sym, ap, subst, refl, ◌∙◌, arith}
use Rattle.std.proofs.lemmas.List.{at_drop_all, append-nil}
use Rattle.std.proofs.lemmas.Result.{err_from_is_err_and}
use Rattle.fk_lower.specs.declared.block.Piece.{Piece}
use Rattle.fk_lower.specs.declared.block.Piece.TheFolds.{the_lemmas}
use Rattle.fk_lower.specs.declared.span.Span.{Span}
use Rattle.fk_lower.specs.Spans.{offset}
use Rattle.fk_lower.specs.Tree.{Pieces, pieces_of, IsMeasured}
use Rattle.fk_lower.specs.View.{piece_of, part_of}
use Rattle.fk_lower.specs.Measures.{measured, rests}
use Rattle.fk_lower.specs.Faults.{AreNumbered}
use Rattle.fk_lower.specs.Written.{items_of, around_of, entry_of, written}
use Rattle.fk_lower.proofs.Back.{first_measured, whole_left, first_numbered, last_rest}
use Rattle.fk_lower.proofs.Room.{measured_span, within_left, room_left}
use Rattle.fk_lower.proofs.write.Writer.+block.Goals as goal

pub block-loop-piece-init : goal.block-loop-piece-init
block-loop-piece-init t c =
    let near = c.args.near in
    let part = part_of c.args.block.now in
    let same : part.pieces ≡ pieces_of (map piece_of c.deref-piece-items.result.now) = search (rules, the_lemmas) in
    let m = c.requires.measured in
    let a = ap (λ (span : Span). span.extent) (measured_span part near m) in
    let b = ap (λ (pieces : Pieces). (measured near pieces).extent) same in
    let room = c.requires.room in
    record {
      rests = c.in_ok-rests.ensures.rests ∙ ap (λ (pieces : Pieces). rests near pieces) same;
      items = refl;
      whole = subst (λ (pieces : Pieces). IsMeasured pieces) same m.1;
      room = omega (arith, a, b, room);
      numbered = λ h. h;
    }

pub block-has_room-requires : goal.block-has_room-requires
block-has_room-requires t c =
    let items = c.deref-piece-items.result.now in
    let near = c.args.near in
    let n = c.loop-piece.piece-index in
    let x = c.piece-item.result in
    let i = c.loop-piece.invariant in
    let rest = last_rest items near n x c.loop-piece.rests.items c.pop.new.self.items c.in-Some.rest c.loop-piece-test.true i.rests c.in-Some.ensures.items in
    let same = ap (λ (span : Span). offset span.start) rest in
    let long = ap (λ (span : Span). span.extent) rest in
    let within = within_left items near (n + 1) (whole_left items n x c.loop-piece-test.true i.whole) in
    record {
      measured = first_measured items n x c.loop-piece-test.true c.piece-item.is i.whole;
      within = omega (arith, same, long, within);
      room = room_left items near n c.loop-piece.at x c.in-Some.rest c.loop-piece-test.true c.piece-item.is rest i.room;
    }

pub block-returns-in_err-at-clause-fault : goal.block-returns-in_err-at-clause-fault
block-returns-in_err-at-clause-fault t c = λ numbers.
    let items = c.deref-piece-items.result.now in
    let same : (part_of c.args.block.now).pieces ≡ pieces_of (map piece_of items) = search (rules, the_lemmas) in
    let left = c.loop-piece.invariant.numbered (subst (λ (pieces : Pieces). AreNumbered pieces) same numbers) in
    let p = err_from_is_err_and c.from_residual-in_err-at.result c.from_residual-in_err-at.ensures.1 in
    rw (p.1, p.2)
    (c.in_err-at.ensures.fault (first_numbered items c.loop-piece.piece-index c.piece-item.result c.loop-piece-test.true c.piece-item.is left))

pub block-returns-clause-items : goal.block-returns-clause-items
block-returns-clause-items t c =
    let items = c.deref-piece-items.result.now in
    let entry = entry_of c.args.entries.now.of_bindings.items c.args.entries.now.end in
    let around = around_of c.args.place.around in
    let same : (part_of c.args.block.now).pieces ≡ pieces_of (map piece_of items) = search (rules, the_lemmas) in
    let here = items_of c.loop-piece.self.ops.items in
    let over = c.loop-piece-test.false in
    sym (append-nil here)
    ∙ sym (at_drop_all (λ (l : List Piece). here ++ written entry c.args.near around c.loop-piece.at c.args.place.next (pieces_of (map piece_of l))) items c.loop-piece.piece-index over)
    ∙ c.loop-piece.invariant.items
    ∙ ap (λ (pieces : Pieces). items_of c.args.self.now.ops.items ++ written entry c.args.near around c.args.place.at c.args.place.next pieces) (sym same)
