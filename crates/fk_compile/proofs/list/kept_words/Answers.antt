use Rattle.std.proofs.Common.{◌<◌, ◌^◌, List, All, subst}
use Rattle.fk_core.specs.declared.op.CoreOp.{CoreOp}
use Rattle.fk_core_liveness.specs.Live.{IsLive, IsLeast, words_in}
use Rattle.fk_compile.proofs.list.kept_words.Goals as goal

pub returns-in-Ok-clause-held : goal.returns-in-Ok-clause-held
returns-in-Ok-clause-held c =
    let kept = c.in-Ok.kept in
    c.requires.can.held kept.items
    (subst (λ (ops : List CoreOp). IsLive ops (words_in kept.items)) c.deref-2.ensures.value c.in-Ok.ensures.live)
    (subst (λ (ops : List CoreOp). IsLeast ops (words_in kept.items)) c.deref-2.ensures.value c.in-Ok.ensures.least)

pub returns-in-Ok-clause-generable : goal.returns-in-Ok-clause-generable
returns-in-Ok-clause-generable c = λ leads saved are.
    let list = c.args.list.now in
    let kept = c.in-Ok.kept in
    c.grouped_lists_are_generable.ensures list.ops.items kept.items saved list.main c.args.firsts.now c.requires.can c.requires.blocks leads
    (subst (λ (ops : List CoreOp). IsLive ops (words_in kept.items)) c.deref-2.ensures.value c.in-Ok.ensures.live)
    (subst (λ (ops : List CoreOp). IsLeast ops (words_in kept.items)) c.deref-2.ensures.value c.in-Ok.ensures.least) are
    (subst (λ (ops : List CoreOp). All (λ op. (op.site < 2 ^ 32) × (op.number < 2 ^ 32)) ops) c.deref.ensures.value c.have_words.ensures)
    c.are_words.ensures

pub returns-in-Ok-clause-least : goal.returns-in-Ok-clause-least
returns-in-Ok-clause-least c =
    let kept = c.in-Ok.kept in
    subst (λ (ops : List CoreOp). IsLeast ops (words_in kept.items)) c.deref-2.ensures.value c.in-Ok.ensures.least
