-- Each meeting is the block of its operation.
use Rattle.std.proofs.Common.{◌≡◌, All, Some, OnOk, OnErr, ap, sym, subst, ◌∙◌}
use Rattle.fk_meaning_operation.specs.declared.operation.Operation.TheVariants.{Meet}
use Rattle.fk_asm.specs.Block.{GoesToMade, HasBegun, with_block}
use Rattle.fk_gen_group.specs.Blocks.{block_by}
use Rattle.fk_gen_group.proofs.blocks.GroupBlocksBlocksPlaced.emit_op.Goals as goal

pub returns-in-Some-Resume-clause-begun : goal.returns-in-Some-Resume-clause-begun
returns-in-Some-Resume-clause-begun c =
    subst (λ o. OnErr c.meet.result (HasBegun (block_by o c.args.op.now.levels c.args.op.now.op.depth c.args.op.now.op.target c.args.op.now.op.site) c.args.into.now c.meet.new.into))
    (ap Some (sym c.in-Some-Resume.field-0-is) ∙ c.in-Some-Resume.ensures) c.meet.ensures.begun

pub returns-in-Some-Meet-true-clause-begun : goal.returns-in-Some-Meet-true-clause-begun
returns-in-Some-Meet-true-clause-begun c =
    subst (λ o. OnErr c.meet-in-Some-Meet-true.result (HasBegun (block_by o c.args.op.now.levels c.args.op.now.op.depth c.args.op.now.op.target c.args.op.now.op.site) c.args.into.now c.meet-in-Some-Meet-true.new.into))
    (ap (λ b. Some (Meet b)) (sym c.in-Some-Meet-true.field-0-0-test) ∙ ap Some (sym c.in-Some-Meet-true.field-0-is) ∙ c.in-Some-Meet-true.ensures) c.meet-in-Some-Meet-true.ensures.begun

pub returns-in-Some-Meet-false-clause-begun : goal.returns-in-Some-Meet-false-clause-begun
returns-in-Some-Meet-false-clause-begun c =
    subst (λ o. OnErr c.meet-in-Some-Meet-false.result (HasBegun (block_by o c.args.op.now.levels c.args.op.now.op.depth c.args.op.now.op.target c.args.op.now.op.site) c.args.into.now c.meet-in-Some-Meet-false.new.into))
    (ap (λ b. Some (Meet b)) (sym c.in-Some-Meet-false.field-0-0-test) ∙ ap Some (sym c.in-Some-Meet-false.field-0-is) ∙ c.in-Some-Meet-false.ensures) c.meet-in-Some-Meet-false.ensures.begun

pub shrink-requires-clause-labels : goal.shrink-requires-clause-labels
shrink-requires-clause-labels c =
    subst (λ o. All (GoesToMade c.args.into.now.bound) (block_by o c.args.op.now.levels c.args.op.now.op.depth c.args.op.now.op.target c.args.op.now.op.site))
    (sym (ap Some (sym c.in-Some-Shrink.field-0-is) ∙ c.in-Some-Shrink.ensures)) c.requires.labels

pub returns-in-Some-Shrink-clause-added : goal.returns-in-Some-Shrink-clause-added
returns-in-Some-Shrink-clause-added c =
    subst (λ o. OnOk c.shrink.result (c.shrink.new.into ≡ with_block c.args.into.now (block_by o c.args.op.now.levels c.args.op.now.op.depth c.args.op.now.op.target c.args.op.now.op.site)))
    (ap Some (sym c.in-Some-Shrink.field-0-is) ∙ c.in-Some-Shrink.ensures) c.shrink.ensures.added

pub returns-in-Some-Shrink-clause-begun : goal.returns-in-Some-Shrink-clause-begun
returns-in-Some-Shrink-clause-begun c =
    subst (λ o. OnErr c.shrink.result (HasBegun (block_by o c.args.op.now.levels c.args.op.now.op.depth c.args.op.now.op.target c.args.op.now.op.site) c.args.into.now c.shrink.new.into))
    (ap Some (sym c.in-Some-Shrink.field-0-is) ∙ c.in-Some-Shrink.ensures) c.shrink.ensures.begun
