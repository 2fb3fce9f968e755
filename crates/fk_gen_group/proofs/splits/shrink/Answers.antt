-- The lines of who stays, of the way out and of the size are the block.
use Rattle.std.proofs.Common.{◌++◌, false}
use Rattle.fk_asm.specs.Block.{GoesToMade}
use Rattle.fk_gen.proofs.Emitted.{on_err, on_ok, when_err, followed, bound_stays, added_both, begun_front, begun_behind}
use Rattle.fk_gen_flow.proofs.Rows.{all_front, all_back}
use Rattle.fk_gen_group.specs.Splits.{staying_lines, outward_lines, last_level, size_line}
use Rattle.fk_gen_group.proofs.splits.shrink.Goals as goal

pub returns-in_err-emit_staying-clause-begun : goal.returns-in_err-emit_staying-clause-begun
returns-in_err-emit_staying-clause-begun c =
    on_err c.from_residual.result _
    (begun_front c.args.into.now c.emit_staying.new.into (staying_lines c.args.depth) (outward_lines false (last_level c.args.levels) c.args.target ++ size_line) c.in_err-emit_staying.ensures.begun)

pub emit_outward-requires-clause-labels : goal.emit_outward-requires-clause-labels
emit_outward-requires-clause-labels c =
    let made = GoesToMade c.args.into.now.bound in
    let xs = staying_lines c.args.depth in
    let ys = outward_lines false (last_level c.args.levels) c.args.target in
    bound_stays c.args.into.now c.emit_staying.new.into xs ys c.in_ok-emit_staying.ensures.added
    (all_front made ys size_line (all_back made xs (ys ++ size_line) c.requires.labels))

pub returns-in_err-emit_outward-clause-begun : goal.returns-in_err-emit_outward-clause-begun
returns-in_err-emit_outward-clause-begun c =
    let ys = outward_lines false (last_level c.args.levels) c.args.target in
    on_err c.from_residual-in_err-emit_outward.result _
    (begun_behind c.args.into.now c.emit_staying.new.into c.emit_outward.new.into (staying_lines c.args.depth) (ys ++ size_line) c.in_ok-emit_staying.ensures.added
    (begun_front c.emit_staying.new.into c.emit_outward.new.into ys size_line c.in_err-emit_outward.ensures.begun))

pub emit_size-requires-clause-free : goal.emit_size-requires-clause-free
emit_size-requires-clause-free c =
    followed c.emit_staying.new.into c.emit_outward.new.into (outward_lines false (last_level c.args.levels) c.args.target)
    (followed c.args.into.now c.emit_staying.new.into (staying_lines c.args.depth) c.requires.free c.in_ok-emit_staying.ensures.added)
    c.in_ok-emit_outward.ensures.added

pub returns-clause-added : goal.returns-clause-added
returns-clause-added c =
    let ys = outward_lines false (last_level c.args.levels) c.args.target in
    on_ok c.emit_size.result _ _
    (λ e. added_both c.args.into.now c.emit_staying.new.into c.emit_size.new.into (staying_lines c.args.depth) (ys ++ size_line) c.in_ok-emit_staying.ensures.added
    (added_both c.emit_staying.new.into c.emit_outward.new.into c.emit_size.new.into ys size_line c.in_ok-emit_outward.ensures.added e))
    c.emit_size.ensures.added

pub returns-clause-begun : goal.returns-clause-begun
returns-clause-begun c =
    let ys = outward_lines false (last_level c.args.levels) c.args.target in
    when_err c.emit_size.result _ _
    (λ b. begun_behind c.args.into.now c.emit_staying.new.into c.emit_size.new.into (staying_lines c.args.depth) (ys ++ size_line) c.in_ok-emit_staying.ensures.added
    (begun_behind c.emit_staying.new.into c.emit_outward.new.into c.emit_size.new.into ys size_line c.in_ok-emit_outward.ensures.added b))
    c.emit_size.ensures.begun
