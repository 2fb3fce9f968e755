use Rattle.std.proofs.Common.{◌+◌, length, sym, subst, ap, arith}
use Rattle.std.proofs.lemmas.List.{length-map}
use Rattle.fk_check_rules.specs.Least.{IsLeast, among_first, among}
use Rattle.fk_types_structs.specs.View.{outline_tree}
use Rattle.fk_types_structs.specs.Whole.{structs_in}
use Rattle.fk_types_struct_rules.specs.Structs.{StructBreaks}
use Rattle.fk_types_struct_rules.proofs.StructLemmas.{IsLeast-next, IsLeast-all}
use Rattle.fk_types_struct_rules.proofs.members.declared_fault.Goals as goal

pub struct_fault-requires-clause-within : goal.struct_fault-requires-clause-within
struct_fault-requires-clause-within c = omega (arith, ap length c.outlines-outlines.ensures, length-map c.outlines-outlines.result.now outline_tree, c.loop-index-test.true)

pub loop-index-preserved : goal.loop-index-preserved
loop-index-preserved c =
    let P = StructBreaks (structs_in c.args.structs.now) in
    let xs = c.outlines-outlines.result.now in
    let n = c.loop-index.index in
    let before = subst (λ ys. IsLeast (among_first c.loop-index.index (StructBreaks (structs_in c.args.structs.now)) ys) c.loop-index.fault) (sym c.outlines-outlines.ensures) c.loop-index.invariant in
    subst (λ ys. IsLeast (among_first (c.loop-index.index + 1) (StructBreaks (structs_in c.args.structs.now)) ys) c.first_of-fault.result) c.outlines-outlines.ensures
    (IsLeast-next outline_tree P xs n c.index-outlines-index.result c.loop-index-test.true c.index-outlines-index.is
    c.loop-index.fault c.struct_fault.result c.first_of-fault.result before c.struct_fault.ensures c.first_of-fault.ensures)

pub returns : goal.returns
returns c =
    let before = subst (λ ys. IsLeast (among_first c.loop-index.index (StructBreaks (structs_in c.args.structs.now)) ys) c.loop-index.fault) (sym c.outlines-outlines.ensures) c.loop-index.invariant in
    subst (λ ys. IsLeast (among (StructBreaks (structs_in c.args.structs.now)) ys) c.loop-index.fault) c.outlines-outlines.ensures
    (IsLeast-all outline_tree (StructBreaks (structs_in c.args.structs.now)) c.outlines-outlines.result.now c.loop-index.index c.loop-index-test.false c.loop-index.fault before)
