use Rattle.std.proofs.Common.{below_more, arith, ◌<◌, ◌^◌}
use Rattle.std.proofs.lemmas.List.Elements.{All-from_get_or}
use Rattle.fk_compile.proofs.Generable.{HasWordsAt, no_op}
use Rattle.fk_compile.proofs.list.have_words.Goals as goal

pub loop-op-preserved : goal.loop-op-preserved
loop-op-preserved c =
    below_more (HasWordsAt c.args.ops.now) c.loop-op.op-index c.loop-op.invariant
    (let site = c.has_words.ensures.site in let number = c.has_words.ensures.number in (omega (arith, site), omega (arith, number)))

pub returns : goal.returns
returns c =
    All-from_get_or (λ op. (op.site < 2 ^ 32) × (op.number < 2 ^ 32)) c.args.ops.now no_op
    (λ i less. c.loop-op.invariant i (let end = c.loop-op-test.false in omega (arith, less, end)))
