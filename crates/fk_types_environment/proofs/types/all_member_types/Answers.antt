use Rattle.std.proofs.Common.{◌+◌, map, take, sym, subst}
use Rattle.std.specs.List.{AllZip}
use Rattle.fk_types_structs.specs.View.{outline_tree}
use Rattle.fk_types_structs.specs.Whole.{structs_in}
use Rattle.fk_types_environment.specs.Types.{AreMemberTypes}
use Rattle.fk_types_environment.proofs.ListLemmas.{zip-more, zip-all}
use Rattle.fk_types_environment.proofs.types.all_member_types.Goals as goal

pub loop-outline-preserved : goal.loop-outline-preserved
loop-outline-preserved c =
    let R = AreMemberTypes (structs_in c.args.structs.now) in
    let xs = c.outlines-outlines.result.now in
    let i = c.loop-outline.outline-index in
    subst (AllZip (AreMemberTypes (structs_in c.args.structs.now)) (map outline_tree (take (c.loop-outline.outline-index + 1) c.outlines-outlines.result.now))) (sym c.in_ok-push.ensures.items)
    (zip-more outline_tree R xs i c.outline-item.result c.loop-outline.all.items c.in_ok-member_types.field-0 c.loop-outline-test.true c.outline-item.is c.loop-outline.invariant c.in_ok-member_types.ensures)

pub returns : goal.returns
returns c =
    subst (λ structs. AllZip (AreMemberTypes (structs_in c.args.structs.now)) structs c.loop-outline.all.items) c.outlines-outlines.ensures
    (zip-all outline_tree (AreMemberTypes (structs_in c.args.structs.now)) c.outlines-outlines.result.now c.loop-outline.outline-index c.loop-outline.all.items c.loop-outline-test.false c.loop-outline.invariant)
