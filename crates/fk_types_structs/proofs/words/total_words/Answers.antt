use Rattle.fk_types_structs.specs.Table.{sizes_of}
use Rattle.fk_types_structs.proofs.WordLemmas.{total_words-next}
use Rattle.fk_types_structs.proofs.words.total_words.Goals as goal

pub loop-kind-preserved : goal.loop-kind-preserved
loop-kind-preserved c = total_words-next (sizes_of c.args.sizes.now) c.args.kinds.now c.loop-kind.kind-index c.loop-kind.total c.after-total.result c.loop-kind-test.true c.loop-kind.invariant c.after-total.ensures
