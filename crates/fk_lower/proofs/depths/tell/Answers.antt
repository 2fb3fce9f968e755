use Rattle.std.proofs.Common.{◌≡◌, length, set, get_or, ap, ◌∙◌, arith}
use Rattle.fk_core.specs.declared.op.CoreOp.{CoreOp}
use Rattle.fk_lower.proofs.Told.{told_first, told_more, all_told}
use Rattle.fk_lower.proofs.depths.tell.Goals as goal

-- what is read behind the end of the list
abbrev none : CoreOp
none = record { kind = 0; site = 0; number = 0; target = 0; depth = 0 }

pub loop-op-preserved : goal.loop-op-preserved
loop-op-preserved c =
    let now = c.loop-op.ops in
    let n = c.loop-op.op-index in
    ap (λ depth. set now n (record (get_or now n none) { depth = depth })) c.depth_at-op.ensures
    ∙ told_more c.args.depths.now c.args.ops.now now n none c.loop-op.invariant c.loop-op-test.true

pub returns : goal.returns
returns c =
    let same : c.loop-op.op-index ≡ length c.args.ops.now = omega arith in
    c.loop-op.invariant ∙ ap (λ n. told_first c.args.depths.now n c.args.ops.now) same ∙ all_told c.args.depths.now c.args.ops.now
