use Rattle.std.proofs.Common.{sym, subst}
use Rattle.fk_syntax.specs.ProgramView.{declared_of}
use Rattle.fk_types_structs.specs.Types.{type_declared}
use Rattle.fk_types_structs.specs.Whole.{structs_in}
use Rattle.fk_types_struct_rules.specs.Declarations.{ParameterBreaks}
use Rattle.fk_types_environment.specs.Types.{HasParameterType}
use Rattle.fk_types_environment.proofs.TypeLemmas.{type-broken, parameter-kept}
use Rattle.fk_types_environment.proofs.types.parameter_type.Goals as goal

pub returns-in-Some : goal.returns-in-Some
returns-in-Some c =
    let structs = structs_in c.args.structs.now in
    let parameter = declared_of c.args.parameter.now in
    type-broken structs (ParameterBreaks structs parameter) (type_declared structs parameter) c.in-Some.field-0 c.in-Some.ensures

pub returns-in-None : goal.returns-in-None
returns-in-None c =
    let structs = structs_in c.args.structs.now in
    let parameter = declared_of c.args.parameter.now in
    subst (HasParameterType structs parameter) (sym c.type_of.ensures) (parameter-kept structs parameter c.in-None.ensures)
