use Rattle.std.proofs.Common.{map, sym, ap, ◌∙◌, arith}
use Rattle.std.proofs.lemmas.List.{length-map, take_all}
use Rattle.fk_asm.specs.Block.{with_block}
use Rattle.fk_asm.proofs.Straight.{with_block-nil}
use Rattle.fk_gen.specs.Lines.{marked}
use Rattle.fk_gen.proofs.Emitted.{fit_at, label_in, take_next, one_more, has_room, begun_more, on_err}
use Rattle.fk_gen.proofs.block_line.emit_lines.Goals as goal

pub loop-line-init : goal.loop-line-init
loop-line-init c = (sym (with_block-nil c.args.into.now), c.requires.free)

pub emit_line-requires-clause-fit : goal.emit_line-requires-clause-fit
emit_line-requires-clause-fit c = fit_at c.args.lines.now c.loop-line.line-index _ c.loop-line-test.true c.requires.fit

pub emit_line-requires-clause-label : goal.emit_line-requires-clause-label
emit_line-requires-clause-label c =
    label_in c.args.into.now c.loop-line.into c.args.lines.now c.loop-line.line-index _ c.loop-line-test.true c.requires.labels c.loop-line.invariant.0

pub emit_line-requires-clause-room : goal.emit_line-requires-clause-room
emit_line-requires-clause-room c =
    has_room c.args.into.now c.loop-line.into c.args.lines.now c.loop-line.line-index c.loop-line-test.true c.requires.room c.loop-line.invariant.0

pub emit_line-requires-clause-free : goal.emit_line-requires-clause-free
emit_line-requires-clause-free c = c.loop-line.invariant.1

pub returns-in_err-emit_line-clause-begun : goal.returns-in_err-emit_line-clause-begun
returns-in_err-emit_line-clause-begun c =
    on_err c.from_residual.result _ (begun_more c.args.into.now c.loop-line.into c.emit_line.new.into (map marked c.args.lines.now) _ c.loop-line.line-index
    (take_next c.args.lines.now c.loop-line.line-index _ c.loop-line-test.true) c.loop-line.invariant.0 c.in_err-emit_line.ensures.begun)

pub loop-line-preserved : goal.loop-line-preserved
loop-line-preserved c = (
  one_more c.args.into.now c.loop-line.into c.emit_line.new.into (map marked c.args.lines.now) _ c.loop-line.line-index
      (take_next c.args.lines.now c.loop-line.line-index _ c.loop-line-test.true) c.loop-line.invariant.0 c.in_ok-emit_line.ensures.added,
  c.in_ok-emit_line.ensures.followed,
)

pub returns-clause-added : goal.returns-clause-added
returns-clause-added c =
    let n = length-map c.args.lines.now marked in
    let all = take_all c.loop-line.line-index (map marked c.args.lines.now) (omega arith) in
    c.loop-line.invariant.0 ∙ ap (with_block c.args.into.now) all
