use Rattle.std.proofs.Common.{◌≡◌, All, List, Some, OnOk, OnErr, ap, sym, subst, ◌∙◌}
use Rattle.fk_meaning_operation.specs.declared.operation.Operation.TheVariants.{Branch, Enter}
use Rattle.fk_asm.specs.Block.{MarkedLine, GoesToMade, HasBegun, with_block}
use Rattle.fk_gen_flow.specs.Blocks.{HasOperands}
use Rattle.fk_gen_flow.proofs.Rows.{chosen}
use Rattle.fk_gen_flow.proofs.blocks.FlowBlocksBlocksPlaced.emit_op.Goals as goal

pub emit_jump-requires-clause-near : goal.emit_jump-requires-clause-near
emit_jump-requires-clause-near c = c.requires.known.jump (sym c.is_jump.ensures ∙ c.if-is_jump.true)

pub emit_branch-requires-clause-depth : goal.emit_branch-requires-clause-depth
emit_branch-requires-clause-depth c = c.requires.known.depth (sym c.is_jump.ensures ∙ c.if-is_jump.false)

pub emit_leave-requires-clause-depth : goal.emit_leave-requires-clause-depth
emit_leave-requires-clause-depth c = c.requires.known.depth (sym c.is_jump.ensures ∙ c.if-is_jump.false)

pub emit_enter-requires-clause-depth : goal.emit_enter-requires-clause-depth
emit_enter-requires-clause-depth c = c.requires.known.depth (sym c.is_jump.ensures ∙ c.if-is_jump.false)

pub emit_enter-requires-clause-clears : goal.emit_enter-requires-clause-clears
emit_enter-requires-clause-clears c = c.requires.known.clears

pub emit_branch-requires-clause-near : goal.emit_branch-requires-clause-near
emit_branch-requires-clause-near c =
    subst (HasOperands c.args.op.now.op.depth c.args.op.now.op.target c.args.op.now.back) (sym (ap Some (sym c.in-Some-Branch.field-0-is) ∙ c.in-Some-Branch.ensures)) c.requires.known.operands

pub emit_enter-requires-clause-arguments : goal.emit_enter-requires-clause-arguments
emit_enter-requires-clause-arguments c =
    (subst (HasOperands c.args.op.now.op.depth c.args.op.now.op.target c.args.op.now.back) (sym (ap Some (sym c.in-Some-Enter.field-0-is) ∙ c.in-Some-Enter.ensures)) c.requires.known.operands).0

pub emit_enter-requires-clause-near : goal.emit_enter-requires-clause-near
emit_enter-requires-clause-near c =
    (subst (HasOperands c.args.op.now.op.depth c.args.op.now.op.target c.args.op.now.back) (sym (ap Some (sym c.in-Some-Enter.field-0-is) ∙ c.in-Some-Enter.ensures)) c.requires.known.operands).1

pub emit_branch-requires-clause-labels : goal.emit_branch-requires-clause-labels
emit_branch-requires-clause-labels c =
    let e = chosen c.args.op.now.clears c.args.op.now.back c.args.op.now.op (Some (Branch c.in-Some-Branch.onward)) (sym c.is_jump.ensures ∙ c.if-is_jump.false) (ap Some (sym c.in-Some-Branch.field-0-is) ∙ c.in-Some-Branch.ensures) in
    subst (λ (ms : List MarkedLine). All (GoesToMade c.args.into.now.bound) ms) e c.requires.labels

pub emit_enter-requires-clause-labels : goal.emit_enter-requires-clause-labels
emit_enter-requires-clause-labels c =
    let e = chosen c.args.op.now.clears c.args.op.now.back c.args.op.now.op (Some (Enter c.in-Some-Enter.arguments)) (sym c.is_jump.ensures ∙ c.if-is_jump.false) (ap Some (sym c.in-Some-Enter.field-0-is) ∙ c.in-Some-Enter.ensures) in
    subst (λ (ms : List MarkedLine). All (GoesToMade c.args.into.now.bound) ms) e c.requires.labels

pub returns-in-Some-Enter-clause-added : goal.returns-in-Some-Enter-clause-added
returns-in-Some-Enter-clause-added c =
    let e = chosen c.args.op.now.clears c.args.op.now.back c.args.op.now.op (Some (Enter c.in-Some-Enter.arguments)) (sym c.is_jump.ensures ∙ c.if-is_jump.false) (ap Some (sym c.in-Some-Enter.field-0-is) ∙ c.in-Some-Enter.ensures) in
    subst (λ (ms : List MarkedLine). OnOk c.emit_enter.result (c.emit_enter.new.into ≡ with_block c.args.into.now ms)) (sym e) c.emit_enter.ensures.added

pub returns-in-Some-Enter-clause-begun : goal.returns-in-Some-Enter-clause-begun
returns-in-Some-Enter-clause-begun c =
    let e = chosen c.args.op.now.clears c.args.op.now.back c.args.op.now.op (Some (Enter c.in-Some-Enter.arguments)) (sym c.is_jump.ensures ∙ c.if-is_jump.false) (ap Some (sym c.in-Some-Enter.field-0-is) ∙ c.in-Some-Enter.ensures) in
    subst (λ (ms : List MarkedLine). OnErr c.emit_enter.result (HasBegun ms c.args.into.now c.emit_enter.new.into)) (sym e) c.emit_enter.ensures.begun
