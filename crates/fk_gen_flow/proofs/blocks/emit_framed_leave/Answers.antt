-- The lines that give the frame back and those that end the call are the block.
use Rattle.std.proofs.Common.{false, arith, refl, length-append}
use Rattle.fk_gen.specs.Lines.{first_commits}
use Rattle.fk_gen.proofs.Emitted.{on_err, on_ok, when_err, many_lines, followed, added_both, begun_front, begun_behind}
use Rattle.fk_gen_flow.specs.Flow.{giving_back, leaving_lines}
use Rattle.fk_gen_flow.proofs.blocks.emit_framed_leave.Goals as goal

pub emit_giving_back-requires-clause-room : goal.emit_giving_back-requires-clause-room
emit_giving_back-requires-clause-room c =
    let all = length-append (first_commits 1 giving_back) (leaving_lines false c.args.gives c.args.depth) in
    let room = c.requires.room in
    omega arith

pub emit_leaving-requires-clause-room : goal.emit_leaving-requires-clause-room
emit_leaving-requires-clause-room c =
    let all = length-append (first_commits 1 giving_back) (leaving_lines false c.args.gives c.args.depth) in
    let more = many_lines c.args.into.now c.emit_giving_back.new.into (first_commits 1 giving_back) _ c.in_ok-emit_giving_back.ensures.added refl in
    let room = c.requires.room in
    omega arith

pub emit_leaving-requires-clause-free : goal.emit_leaving-requires-clause-free
emit_leaving-requires-clause-free c =
    followed c.args.into.now c.emit_giving_back.new.into (first_commits 1 giving_back) c.requires.free c.in_ok-emit_giving_back.ensures.added

pub returns-in_err-emit_giving_back-clause-begun : goal.returns-in_err-emit_giving_back-clause-begun
returns-in_err-emit_giving_back-clause-begun c =
    on_err c.from_residual.result _
    (begun_front c.args.into.now c.emit_giving_back.new.into (first_commits 1 giving_back) (leaving_lines false c.args.gives c.args.depth) c.in_err-emit_giving_back.ensures.begun)

pub returns-clause-added : goal.returns-clause-added
returns-clause-added c =
    on_ok c.emit_leaving.result _ _
    (added_both c.args.into.now c.emit_giving_back.new.into c.emit_leaving.new.into (first_commits 1 giving_back) (leaving_lines false c.args.gives c.args.depth)
    c.in_ok-emit_giving_back.ensures.added)
    c.emit_leaving.ensures.added

pub returns-clause-begun : goal.returns-clause-begun
returns-clause-begun c =
    when_err c.emit_leaving.result _ _
    (begun_behind c.args.into.now c.emit_giving_back.new.into c.emit_leaving.new.into (first_commits 1 giving_back) (leaving_lines false c.args.gives c.args.depth)
    c.in_ok-emit_giving_back.ensures.added)
    c.emit_leaving.ensures.begun
