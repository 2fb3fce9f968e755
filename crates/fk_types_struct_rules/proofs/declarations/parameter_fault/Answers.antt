use Rattle.fk_syntax.specs.ProgramView.{declared_of}
use Rattle.fk_check_rules.specs.declared.rule.Rule.TheVariants as rules
use Rattle.fk_check_rules.specs.Least.{only}
use Rattle.fk_check_rules.proofs.LeastLemmas.{IsLeast-either}
use Rattle.fk_types_structs.specs.Whole.{structs_in}
use Rattle.fk_types_struct_rules.specs.Declarations.{IsStruct, At, DeclarationBreaks}
use Rattle.fk_types_struct_rules.proofs.declarations.parameter_fault.Goals as goal

pub returns : goal.returns
returns c =
    let parameter = declared_of c.args.parameter.now in
    IsLeast-either (DeclarationBreaks (structs_in c.args.structs.now) parameter) (only rules.NoVariable (At parameter.name.place (IsStruct parameter.kind)))
    c.declaration_fault.result c.whole_struct-whole.result c.first_of.result c.declaration_fault.ensures c.whole_struct-whole.ensures c.first_of.ensures
