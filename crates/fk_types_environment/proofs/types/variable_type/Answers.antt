use Rattle.std.proofs.Common.{sym, subst}
use Rattle.fk_syntax.specs.ProgramView.{declared_of}
use Rattle.fk_types_structs.specs.Types.{type_declared}
use Rattle.fk_types_structs.specs.Whole.{structs_in}
use Rattle.fk_types_struct_rules.specs.Declarations.{DeclarationBreaks}
use Rattle.fk_types_environment.specs.Types.{HasVariableType}
use Rattle.fk_types_environment.proofs.TypeLemmas.{type-broken, variable-kept}
use Rattle.fk_types_environment.proofs.types.variable_type.Goals as goal

pub returns-in-Some : goal.returns-in-Some
returns-in-Some c =
    let structs = structs_in c.args.structs.now in
    let declared = declared_of c.args.declared.now in
    type-broken structs (DeclarationBreaks structs declared) (type_declared structs declared) c.in-Some.field-0 c.in-Some.ensures

pub returns-in-None : goal.returns-in-None
returns-in-None c =
    let structs = structs_in c.args.structs.now in
    let declared = declared_of c.args.declared.now in
    subst (HasVariableType structs declared) (sym c.type_of.ensures) (variable-kept structs declared c.in-None.ensures)
