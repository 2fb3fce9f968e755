use Rattle.std.proofs.Common.{arith}
use Rattle.fk_check_rules.specs.declared.rule.Rule.TheVariants as rules
use Rattle.fk_check_rules.specs.Least.{only}
use Rattle.fk_check_rules.proofs.LeastLemmas.{IsLeast-either}
use Rattle.fk_check_rules.proofs.ToldLemmas.{told_where}
use Rattle.fk_types_structs.specs.View.{outline_tree}
use Rattle.fk_types_structs.specs.Whole.{structs_in}
use Rattle.fk_types_struct_rules.specs.Declarations.{At, IsTooLarge}
use Rattle.fk_types_struct_rules.specs.Structs.{whole, IsSecondStruct}
use Rattle.fk_types_struct_rules.proofs.members.name_fault.Goals as goal

pub overflow_cast-kind : goal.overflow_cast-kind
overflow_cast-kind c = omega (arith, c.requires.sound.few, c.requires.within)

pub returns : goal.returns
returns c =
    let structs = structs_in c.args.structs.now in
    let s = outline_tree c.args.outline.now in
    let P = IsSecondStruct structs c.args.index s in
    let Q = IsTooLarge structs (whole c.args.index) in
    IsLeast-either (only rules.DeclaredTwice (At s.name.place P)) (only rules.WrongSize (At s.name.place Q))
    c.fault_if-second.result c.fault_if-large.result c.first_of.result
    (told_where rules.DeclaredTwice s.name.place c.is_second_struct-is_second.result P c.is_second_struct-is_second.ensures c.fault_if-second.result c.fault_if-second.ensures)
    (told_where rules.WrongSize s.name.place c.is_too_large.result Q c.is_too_large.ensures c.fault_if-large.result c.fault_if-large.ensures)
    c.first_of.ensures
