use Rattle.std.proofs.Common.{◌+◌, get_or, sym, ap, subst, ◌∙◌, arith}
use Rattle.fk_lex.specs.Moves.{part_size}
use Rattle.fk_lex.proofs.Parts.{Walked, walked_good, walked_bad, walked_closed, walked_open, bad_within}
use Rattle.fk_lex.proofs.literal.text_step.Goals as goal

pub closed-requires-clause-bad : goal.closed-requires-clause-bad
closed-requires-clause-bad c = bad_within _ c.loop-at.at c.loop-at.bad c.loop-at.invariant

pub loop-at-preserved-in-Some : goal.loop-at-preserved-in-Some
loop-at-preserved-in-Some c =
    walked_good c.split_at.result.1.now c.loop-at.at c.in-Some.size c.loop-at.bad c.loop-at.invariant (omega arith)
    (sym c.in-Some.is ∙ c.part_size.ensures ∙ ap (part_size (get_or c.split_at.result.1.now c.loop-at.at 0)) c.byte_at.ensures)

pub loop-at-preserved : goal.loop-at-preserved
loop-at-preserved c =
    let body = c.split_at.result.1.now in
    subst (Walked body (c.loop-at.at + 1)) (sym c.or-bad.ensures)
    (walked_bad body c.loop-at.at c.loop-at.bad c.loop-at.invariant (omega arith) (λ quote. omega arith) (λ newline. omega arith)
    (sym c.in-None.is ∙ c.part_size.ensures ∙ ap (part_size (get_or body c.loop-at.at 0)) c.byte_at.ensures))

pub returns-then-body-at-eq34 : goal.returns-then-body-at-eq34
returns-then-body-at-eq34 c =
    walked_closed c.args.text.now c.split_at.result.1.now c.loop-at.at c.loop-at.bad c.closed.result c.requires.some c.requires.quote c.split_at.ensures.back
    c.loop-at.invariant (omega arith) (omega arith) c.closed.ensures.good c.closed.ensures.bad

pub returns-else-body-at-ne10 : goal.returns-else-body-at-ne10
returns-else-body-at-ne10 c =
    walked_open c.args.text.now c.split_at.result.1.now c.loop-at.at c.loop-at.bad c.requires.some c.requires.quote c.split_at.ensures.back c.loop-at.invariant
    (λ inside. c.if-body-at-ne10.false)

pub returns-after-loop-at : goal.returns-after-loop-at
returns-after-loop-at c =
    walked_open c.args.text.now c.split_at.result.1.now c.loop-at.at c.loop-at.bad c.requires.some c.requires.quote c.split_at.ensures.back c.loop-at.invariant
    (λ inside. absurd (omega arith))
