use Rattle.std.proofs.Common.{◌≤◌, length, arith}
use Rattle.fk_check_rules.proofs.LeastLemmas.{IsLeast-whole}
use Rattle.fk_types_structs.specs.View.{outline_tree}
use Rattle.fk_types_structs.specs.Whole.{structs_in}
use Rattle.fk_types_struct_rules.specs.Structs.{HoldingBreaks}
use Rattle.fk_types_struct_rules.proofs.StructLemmas.{mapped-at, mapped-length}
use Rattle.fk_types_struct_rules.proofs.HoldingLemmas.{IsLeast-holding}
use Rattle.fk_types_struct_rules.proofs.holding.first_holder.Goals as goal

pub loop-index-preserved : goal.loop-index-preserved
loop-index-preserved c =
    let structs = structs_in c.args.structs.now in
    let there = mapped-at outline_tree c.outlines-outlines.result.now structs c.outlines-outlines.ensures c.loop-index.index c.index-outlines-index.result c.loop-index-test.true c.index-outlines-index.is in
    IsLeast-holding structs c.args.graph.now c.requires.edges c.loop-index.index (outline_tree c.index-outlines-index.result) c.loop-index.fault c.in_ok-fault.fault there c.loop-index.invariant c.in_ok-fault.ensures

pub returns : goal.returns
returns c =
    let structs = structs_in c.args.structs.now in
    let whole : length (structs_in c.args.structs.now) ≤ c.loop-index.index = omega (arith, mapped-length outline_tree c.outlines-outlines.result.now structs c.outlines-outlines.ensures, c.loop-index-test.false) in
    IsLeast-whole (HoldingBreaks structs) structs c.loop-index.index whole c.loop-index.fault c.loop-index.invariant
