use Rattle.fk_syntax.specs.View.{type_of}
use Rattle.fk_check_rules.specs.declared.rule.Rule.TheVariants as rules
use Rattle.fk_check_rules.specs.Least.{only}
use Rattle.fk_check_rules.proofs.LeastLemmas.{IsLeast-either}
use Rattle.fk_types_structs.specs.Whole.{structs_in}
use Rattle.fk_types_struct_rules.specs.Declarations.{NamesNoStruct, IsStruct, At}
use Rattle.fk_types_struct_rules.proofs.declarations.result_fault.Goals as goal

pub returns : goal.returns
returns c =
    let kind = type_of c.args.kind.now in
    IsLeast-either (only rules.NoStruct (NamesNoStruct (structs_in c.args.structs.now) kind)) (only rules.NoVariable (At c.args.place (IsStruct kind)))
    c.no_struct.result c.whole_struct.result c.first_of.result c.no_struct.ensures c.whole_struct.ensures c.first_of.ensures
