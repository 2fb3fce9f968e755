-- The lines of the sum and the one that takes it are the code.
use Rattle.std.proofs.Common.{◌≡◌, ℕ, ◌+◌, ◌*◌, ◌≤◌, Bool, true, false, length, map, arith, refl, length-append}
use Rattle.std.specs.Prelude.{◌==◌}
use Rattle.fk_gen.specs.Lines.{quiet, high_part, add_by, add_number}
use Rattle.fk_gen.proofs.Emitted.{on_err, on_ok, when_err, many_lines, followed, added_both, begun_front, begun_behind}
use Rattle.fk_gen_group.specs.Splits.{found_line, frames_sum}
use Rattle.fk_gen_group.proofs.splits.emit_frames_sum.Goals as goal

sum_by : (short : Bool) (n register : ℕ) → 1 ≤ length (map quiet (add_by short n register))
sum_by true n register = omega arith
sum_by false n register = omega arith

pub emit_sum-requires-clause-room : goal.emit_sum-requires-clause-room
emit_sum-requires-clause-room c =
    let all : length (frames_sum c.args.words) ≡ length (map quiet (add_number (32 + 4 * c.args.words) 10)) + length found_line = length-append (map quiet (add_number (32 + 4 * c.args.words) 10)) found_line in
    let more = sum_by (high_part (32 + 4 * c.args.words) == 0) (32 + 4 * c.args.words) 10 in
    let room = c.requires.room in
    omega (arith, all, more, room)

pub emit_found-requires-clause-room : goal.emit_found-requires-clause-room
emit_found-requires-clause-room c =
    let all : length (frames_sum c.args.words) ≡ length (map quiet (add_number (32 + 4 * c.args.words) 10)) + length found_line = length-append (map quiet (add_number (32 + 4 * c.args.words) 10)) found_line in
    let more = many_lines c.args.into.now c.emit_sum.new.into (map quiet (add_number (32 + 4 * c.args.words) 10)) _ c.in_ok-emit_sum.ensures.added refl in
    let room = c.requires.room in
    omega arith

pub emit_found-requires-clause-free : goal.emit_found-requires-clause-free
emit_found-requires-clause-free c =
    followed c.args.into.now c.emit_sum.new.into (map quiet (add_number (32 + 4 * c.args.words) 10)) c.requires.free c.in_ok-emit_sum.ensures.added

pub returns-in_err-emit_sum-clause-begun : goal.returns-in_err-emit_sum-clause-begun
returns-in_err-emit_sum-clause-begun c =
    on_err c.from_residual.result _
    (begun_front c.args.into.now c.emit_sum.new.into (map quiet (add_number (32 + 4 * c.args.words) 10)) found_line c.in_err-emit_sum.ensures.begun)

pub returns-clause-added : goal.returns-clause-added
returns-clause-added c =
    on_ok c.emit_found.result _ _
    (added_both c.args.into.now c.emit_sum.new.into c.emit_found.new.into (map quiet (add_number (32 + 4 * c.args.words) 10)) found_line c.in_ok-emit_sum.ensures.added)
    c.emit_found.ensures.added

pub returns-clause-begun : goal.returns-clause-begun
returns-clause-begun c =
    when_err c.emit_found.result _ _
    (begun_behind c.args.into.now c.emit_sum.new.into c.emit_found.new.into (map quiet (add_number (32 + 4 * c.args.words) 10)) found_line c.in_ok-emit_sum.ensures.added)
    c.emit_found.ensures.begun
