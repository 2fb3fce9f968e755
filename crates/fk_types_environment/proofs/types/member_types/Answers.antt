use Rattle.std.proofs.Common.{◌+◌, map, take, sym, subst}
use Rattle.std.specs.List.{AllZip}
use Rattle.fk_syntax.specs.ProgramView.{declared_of}
use Rattle.fk_types_structs.specs.Whole.{structs_in}
use Rattle.fk_types_environment.specs.Types.{HasVariableType}
use Rattle.fk_types_environment.proofs.ListLemmas.{zip-more, zip-all}
use Rattle.fk_types_environment.proofs.types.member_types.Goals as goal

pub loop-member-preserved : goal.loop-member-preserved
loop-member-preserved c =
    let R = HasVariableType (structs_in c.args.structs.now) in
    let xs = c.args.members.now in
    let i = c.loop-member.member-index in
    subst (AllZip (HasVariableType (structs_in c.args.structs.now)) (map declared_of (take (c.loop-member.member-index + 1) c.args.members.now))) (sym c.in_ok-push.ensures.items)
    (zip-more declared_of R xs i c.member-item.result c.loop-member.types.items c.variable_type.result c.loop-member-test.true c.member-item.is c.loop-member.invariant c.variable_type.ensures)

pub returns : goal.returns
returns c = zip-all declared_of (HasVariableType (structs_in c.args.structs.now)) c.args.members.now c.loop-member.member-index c.loop-member.types.items c.loop-member-test.false c.loop-member.invariant
