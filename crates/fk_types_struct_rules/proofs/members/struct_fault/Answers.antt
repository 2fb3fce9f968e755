use Rattle.fk_check_rules.specs.Least.{among}
use Rattle.fk_check_rules.proofs.LeastLemmas.{IsLeast-either}
use Rattle.fk_types_structs.specs.View.{outline_tree}
use Rattle.fk_types_structs.specs.Whole.{structs_in}
use Rattle.fk_types_struct_rules.specs.Structs.{NameBreaks, MemberBreaks}
use Rattle.fk_types_struct_rules.proofs.members.struct_fault.Goals as goal

pub returns : goal.returns
returns c =
    let structs = structs_in c.args.structs.now in
    let s = outline_tree c.args.outline.now in
    IsLeast-either (NameBreaks structs c.args.index s) (among (MemberBreaks structs c.args.index) s.members)
    c.name_fault.result c.members_fault-members.result c.first_of.result c.name_fault.ensures c.members_fault-members.ensures c.first_of.ensures
