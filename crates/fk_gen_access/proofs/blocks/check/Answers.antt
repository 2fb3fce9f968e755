-- The lines of the number and those of the test are the block.
use Rattle.std.proofs.Common.{ℕ, ◌≤◌, Bool, true, false, map, length, arith, refl, length-append}
use Rattle.fk_gen.specs.Lines.{quiet, load_number}
use Rattle.fk_gen.proofs.Emitted.{on_err, on_ok, when_err, many_lines, followed, added_both, begun_front, begun_behind}
use Rattle.fk_gen_access.specs.Blocks.{test_lines}
use Rattle.fk_gen_access.proofs.blocks.check.Goals as goal

some_lines : (alone : Bool) (d : ℕ) → 5 ≤ length (test_lines alone d)
some_lines true d = omega arith
some_lines false d = omega arith

pub emit_number-requires-clause-room : goal.emit_number-requires-clause-room
emit_number-requires-clause-room c =
    let all = length-append (map quiet (load_number c.args.site)) (test_lines c.args.shared_alone c.args.depth) in
    let some = some_lines c.args.shared_alone c.args.depth in
    let room = c.requires.room in
    omega arith

pub test-requires-clause-room : goal.test-requires-clause-room
test-requires-clause-room c =
    let all = length-append (map quiet (load_number c.args.site)) (test_lines c.args.shared_alone c.args.depth) in
    let more = many_lines c.args.into.now c.emit_number.new.into (map quiet (load_number c.args.site)) _ c.in_ok-emit_number.ensures.added refl in
    let room = c.requires.room in
    omega arith

pub test-requires-clause-free : goal.test-requires-clause-free
test-requires-clause-free c = followed c.args.into.now c.emit_number.new.into (map quiet (load_number c.args.site)) c.requires.free c.in_ok-emit_number.ensures.added

pub returns-in_err-emit_number-clause-begun : goal.returns-in_err-emit_number-clause-begun
returns-in_err-emit_number-clause-begun c =
    on_err c.from_residual.result _
    (begun_front c.args.into.now c.emit_number.new.into (map quiet (load_number c.args.site)) (test_lines c.args.shared_alone c.args.depth) c.in_err-emit_number.ensures.begun)

pub returns-clause-added : goal.returns-clause-added
returns-clause-added c =
    on_ok c.test.result _ _
    (added_both c.args.into.now c.emit_number.new.into c.test.new.into (map quiet (load_number c.args.site)) (test_lines c.args.shared_alone c.args.depth) c.in_ok-emit_number.ensures.added)
    c.test.ensures.added

pub returns-clause-begun : goal.returns-clause-begun
returns-clause-begun c =
    when_err c.test.result _ _
    (begun_behind c.args.into.now c.emit_number.new.into c.test.new.into (map quiet (load_number c.args.site)) (test_lines c.args.shared_alone c.args.depth) c.in_ok-emit_number.ensures.added)
    c.test.ensures.begun
