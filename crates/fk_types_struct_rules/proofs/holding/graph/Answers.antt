use Rattle.std.proofs.Common.{◌≡◌, ◌+◌, length, sym, subst, arith}
use Rattle.std.proofs.lemmas.List.{length-map}
use Rattle.fk_syntax.specs.ProgramView.{declared_of}
use Rattle.fk_types_structs.specs.View.{outline_tree}
use Rattle.fk_types_structs.specs.Whole.{structs_in}
use Rattle.fk_types_struct_rules.specs.Holding.{AreHeld, AreFirstEdges}
use Rattle.fk_types_struct_rules.proofs.StructLemmas.{mapped-at, mapped-length}
use Rattle.fk_types_struct_rules.proofs.HoldingLemmas.{AreFirstEdges-more}
use Rattle.fk_types_struct_rules.proofs.holding.graph.Goals as goal

pub loop-index-preserved : goal.loop-index-preserved
loop-index-preserved c =
    let structs = structs_in c.args.structs.now in
    let n = c.loop-index.index in
    let outline = c.index-outlines-index.result in
    let there = mapped-at outline_tree c.outlines-outlines.result.now structs c.outlines-outlines.ensures n outline c.loop-index-test.true c.index-outlines-index.is in
    let held = subst (λ k. AreHeld (structs_in c.args.structs.now) c.loop-index.index k c.in_ok-held.field-0.items) (sym (length-map outline.members.now declared_of)) c.in_ok-held.ensures in
    subst (AreFirstEdges (structs_in c.args.structs.now) (c.loop-index.index + 1)) (sym c.in_ok-push.ensures.items)
    (AreFirstEdges-more structs n c.loop-index.graph.items c.in_ok-held.field-0 (outline_tree outline) there c.loop-index.invariant held)

pub returns : goal.returns
returns c =
    let structs = structs_in c.args.structs.now in
    let whole : c.loop-index.index ≡ length (structs_in c.args.structs.now) =
    omega (arith, mapped-length outline_tree c.outlines-outlines.result.now structs c.outlines-outlines.ensures, c.loop-index-test.false, c.loop-index.auto.index-end) in
    subst (λ k. AreFirstEdges (structs_in c.args.structs.now) k c.loop-index.graph.items) whole c.loop-index.invariant
