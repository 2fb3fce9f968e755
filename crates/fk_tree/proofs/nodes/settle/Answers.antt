use Rattle.std.proofs.Common.{◌<◌, length, get_or, arith, slice_index}
use Rattle.fk_tree.proofs.Lists.{member_at}
use Rattle.fk_tree.proofs.Places.{settles}
use Rattle.fk_tree.proofs.nodes.settle.Goals as goal

pub bounds-places-processor : goal.bounds-places-processor
bounds-places-processor c =
    omega (arith, c.requires (get_or c.args.processors.now c.loop-processor.processor-index 0) (member_at c.args.processors.now c.loop-processor.processor-index c.loop-processor-test.true), c.loop-processor.auto.places)

pub loop-processor-preserved : goal.loop-processor-preserved
loop-processor-preserved c =
    let within : get_or c.args.processors.now c.loop-processor.processor-index 0 < length c.loop-processor.places =
    omega (arith, c.requires (get_or c.args.processors.now c.loop-processor.processor-index 0) (member_at c.args.processors.now c.loop-processor.processor-index c.loop-processor-test.true), c.loop-processor.auto.places) in
    settles c.args.node c.args.processors.now (slice_index c.args.places.now) c.loop-processor.processor-index c.loop-processor-test.true c.loop-processor.places within c.loop-processor.invariant
