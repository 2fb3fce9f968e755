use Rattle.std.proofs.Common.{◌+◌, map, take, sym, subst}
use Rattle.std.specs.List.{AllZip}
use Rattle.fk_syntax.specs.ProgramView.{declared_of}
use Rattle.fk_types_structs.specs.Whole.{structs_in}
use Rattle.fk_types_environment.specs.Types.{HasParameterType}
use Rattle.fk_types_environment.proofs.ListLemmas.{zip-more, zip-all}
use Rattle.fk_types_environment.proofs.types.parameter_types.Goals as goal

pub loop-parameter-preserved : goal.loop-parameter-preserved
loop-parameter-preserved c =
    let R = HasParameterType (structs_in c.args.structs.now) in
    let xs = c.args.parameters.now in
    let i = c.loop-parameter.parameter-index in
    subst (AllZip (HasParameterType (structs_in c.args.structs.now)) (map declared_of (take (c.loop-parameter.parameter-index + 1) c.args.parameters.now))) (sym c.in_ok-push.ensures.items)
    (zip-more declared_of R xs i c.parameter-item.result c.loop-parameter.types.items c.parameter_type.result c.loop-parameter-test.true c.parameter-item.is c.loop-parameter.invariant c.parameter_type.ensures)

pub returns : goal.returns
returns c = zip-all declared_of (HasParameterType (structs_in c.args.structs.now)) c.args.parameters.now c.loop-parameter.parameter-index c.loop-parameter.types.items c.loop-parameter-test.false c.loop-parameter.invariant
