use Rattle.std.proofs.Common.{◌+◌, ◌*◌, take, arith, refl, get_or}
use Rattle.fk_gen_flow.specs.Opening.{first_line, first_lines}
use Rattle.fk_gen.proofs.Emitted.{many_lines, followed}
use Rattle.fk_gen_flow.proofs.Rows.{one_first_more, many_first_lines}
use Rattle.fk_gen_flow.proofs.opening.emit_firsts.Goals as goal

pub emit_first-requires-clause-room : goal.emit_first-requires-clause-room
emit_first-requires-clause-room c =
    let i = c.loop-i.i in
    let lines = many_lines c.args.into.now c.loop-i.into (first_lines 0 (take i c.args.firsts.now)) (3 * i) c.loop-i.invariant.0 (many_first_lines 0 i c.args.firsts.now (omega arith)) in
    omega arith

pub emit_first-requires-clause-free : goal.emit_first-requires-clause-free
emit_first-requires-clause-free c = c.loop-i.invariant.1

pub loop-i-preserved : goal.loop-i-preserved
loop-i-preserved c = (
  one_first_more c.args.into.now c.loop-i.into c.emit_first.new.into c.args.firsts.now c.loop-i.i (c.loop-i.i + 1) c.loop-i-test.true refl c.loop-i.invariant.0 c.in_ok-emit_first.ensures.added,
  followed c.loop-i.into c.emit_first.new.into (first_line c.loop-i.i (get_or c.args.firsts.now c.loop-i.i 0)) c.loop-i.invariant.1 c.in_ok-emit_first.ensures.added,
)
