use Rattle.std.proofs.Common.{◌*◌, length, arith, refl}
use Rattle.fk_gen_flow.specs.Flow.{jump_block}
use Rattle.fk_gen_flow.specs.Opening.{register_lines, first_lines}
use Rattle.fk_gen.proofs.Emitted.{many_lines, followed, bound_stays, on_ok}
use Rattle.fk_gen_flow.proofs.Rows.{opening_joined, many_firsts}
use Rattle.fk_gen_flow.proofs.opening.emit_opening.Goals as goal

pub emit_firsts-requires-clause-room : goal.emit_firsts-requires-clause-room
emit_firsts-requires-clause-room c =
    let first = many_lines c.args.into.now c.emit_registers.new.into (register_lines (length c.args.firsts.now)) 14 c.in_ok-emit_registers.ensures.added refl in
    omega arith

pub emit_firsts-requires-clause-free : goal.emit_firsts-requires-clause-free
emit_firsts-requires-clause-free c = followed c.args.into.now c.emit_registers.new.into (register_lines (length c.args.firsts.now)) c.requires.free c.in_ok-emit_registers.ensures.added

pub emit_jump-requires-clause-labels : goal.emit_jump-requires-clause-labels
emit_jump-requires-clause-labels c =
    bound_stays c.emit_registers.new.into c.emit_firsts.new.into (first_lines 0 c.args.firsts.now) (jump_block c.args.main) c.in_ok-emit_firsts.ensures.added
    (bound_stays c.args.into.now c.emit_registers.new.into (register_lines (length c.args.firsts.now)) (jump_block c.args.main) c.in_ok-emit_registers.ensures.added c.requires.labels)

pub emit_jump-requires-clause-room : goal.emit_jump-requires-clause-room
emit_jump-requires-clause-room c =
    let first = many_lines c.args.into.now c.emit_registers.new.into (register_lines (length c.args.firsts.now)) 14 c.in_ok-emit_registers.ensures.added refl in
    let second = many_lines c.emit_registers.new.into c.emit_firsts.new.into (first_lines 0 c.args.firsts.now) (3 * length c.args.firsts.now) c.in_ok-emit_firsts.ensures.added (many_firsts 0 c.args.firsts.now) in
    omega arith

pub emit_jump-requires-clause-free : goal.emit_jump-requires-clause-free
emit_jump-requires-clause-free c =
    followed c.emit_registers.new.into c.emit_firsts.new.into (first_lines 0 c.args.firsts.now)
    (followed c.args.into.now c.emit_registers.new.into (register_lines (length c.args.firsts.now)) c.requires.free c.in_ok-emit_registers.ensures.added)
    c.in_ok-emit_firsts.ensures.added

pub returns : goal.returns
returns c = record {
  added = on_ok c.emit_jump.result _ _ (opening_joined c.args.into.now c.emit_registers.new.into c.emit_firsts.new.into c.emit_jump.new.into (length c.args.firsts.now) c.args.firsts.now c.args.main c.in_ok-emit_registers.ensures.added c.in_ok-emit_firsts.ensures.added) c.emit_jump.ensures.added;
}
