use Rattle.std.proofs.Common.{◌⊎◌, IsSome}
use Rattle.fk_syntax.specs.ProgramView.{declared_of}
use Rattle.fk_check_rules.specs.declared.rule.Rule.TheVariants as rules
use Rattle.fk_check_rules.proofs.ToldLemmas.{told_where}
use Rattle.fk_types_struct_rules.specs.Declarations.{IsStruct}
use Rattle.fk_types_checker.proofs.values.whole_fault.Goals as goal

pub returns : goal.returns
returns c =
    let v = declared_of c.args.variable.now in
    told_where rules.WholeAssigned v.name.place c.is_whole.result (IsSome v.length ⊎ IsStruct v.kind) c.is_whole.ensures c.fault_if.result c.fault_if.ensures
