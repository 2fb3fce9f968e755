use Rattle.std.proofs.Common.{◌+◌, sym, subst}
use Rattle.fk_types_structs.specs.Table.{sizes_of, AreFirstOffsets}
use Rattle.fk_types_structs.proofs.WordLemmas.{total_words-next, AreOffsets-next}
use Rattle.fk_types_structs.proofs.words.offsets.Goals as goal

pub loop-kind-preserved : goal.loop-kind-preserved
loop-kind-preserved c = (
  total_words-next (sizes_of c.args.sizes.now) c.args.kinds.now c.loop-kind.kind-index c.loop-kind.total c.after-total.result c.loop-kind-test.true c.loop-kind.invariant.0 c.after-total.ensures,
  subst (AreFirstOffsets (sizes_of c.args.sizes.now) c.args.kinds.now (c.loop-kind.kind-index + 1)) (sym c.in_ok-push.ensures.items)
      (AreOffsets-next (sizes_of c.args.sizes.now) c.args.kinds.now c.loop-kind.kind-index c.loop-kind.offsets.items c.loop-kind.total c.loop-kind.invariant.0 c.loop-kind.invariant.1),
)
