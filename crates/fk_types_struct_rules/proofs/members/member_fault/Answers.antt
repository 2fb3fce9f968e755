use Rattle.fk_syntax.specs.ProgramView.{declared_of}
use Rattle.fk_check_rules.specs.declared.rule.Rule.TheVariants as rules
use Rattle.fk_check_rules.specs.Least.{only}
use Rattle.fk_check_rules.proofs.LeastLemmas.{IsLeast-either}
use Rattle.fk_check_rules.proofs.ToldLemmas.{told_where}
use Rattle.fk_types_structs.specs.Whole.{structs_in}
use Rattle.fk_types_struct_rules.specs.Declarations.{At, DeclarationBreaks}
use Rattle.fk_types_struct_rules.specs.Structs.{IsSecondMember}
use Rattle.fk_types_struct_rules.proofs.members.member_fault.Goals as goal

pub returns : goal.returns
returns c =
    let structs = structs_in c.args.structs.now in
    let member = declared_of c.args.member.now in
    let P = IsSecondMember structs c.args.index c.args.place member in
    IsLeast-either (only rules.DeclaredTwice (At member.name.place P)) (DeclarationBreaks structs member)
    c.fault_if-second.result c.declaration_fault.result c.first_of.result
    (told_where rules.DeclaredTwice member.name.place c.is_second_member-is_second.result P c.is_second_member-is_second.ensures c.fault_if-second.result c.fault_if-second.ensures)
    c.declaration_fault.ensures c.first_of.ensures
