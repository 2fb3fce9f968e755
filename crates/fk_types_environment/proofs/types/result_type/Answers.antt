use Rattle.std.proofs.Common.{None, sym, subst}
use Rattle.fk_syntax.specs.ProgramView.{function_of}
use Rattle.fk_types_structs.specs.Types.{type_spelled}
use Rattle.fk_types_structs.specs.Whole.{structs_in}
use Rattle.fk_types_struct_rules.specs.Declarations.{ResultBreaks}
use Rattle.fk_types_environment.specs.Types.{HasResultType}
use Rattle.fk_types_environment.proofs.TypeLemmas.{type-broken, result-kept}
use Rattle.fk_types_environment.proofs.types.result_type.Goals as goal

pub returns-in-Some : goal.returns-in-Some
returns-in-Some c =
    let structs = structs_in c.args.structs.now in
    let function = function_of c.args.function.now in
    type-broken structs (ResultBreaks structs function.result function.name.place) (type_spelled structs function.result None) c.in-Some.field-0 c.in-Some.ensures

pub returns-in-None : goal.returns-in-None
returns-in-None c =
    let structs = structs_in c.args.structs.now in
    let function = function_of c.args.function.now in
    subst (HasResultType structs function) (sym c.type_of.ensures) (result-kept structs function c.in-None.ensures)
