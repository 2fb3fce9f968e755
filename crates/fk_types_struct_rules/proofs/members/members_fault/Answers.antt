use Rattle.fk_syntax.specs.ProgramView.{declared_of}
use Rattle.fk_types_structs.specs.Whole.{structs_in}
use Rattle.fk_types_struct_rules.specs.Structs.{MemberBreaks}
use Rattle.fk_types_struct_rules.proofs.StructLemmas.{IsLeast-next, IsLeast-all}
use Rattle.fk_types_struct_rules.proofs.members.members_fault.Goals as goal

pub loop-place-preserved : goal.loop-place-preserved
loop-place-preserved c = IsLeast-next declared_of (MemberBreaks (structs_in c.args.structs.now) c.args.index) c.args.members.now c.loop-place.place c.index-members-place.result c.loop-place-test.true c.index-members-place.is
    c.loop-place.fault c.member_fault.result c.first_of-fault.result c.loop-place.invariant c.member_fault.ensures c.first_of-fault.ensures

pub returns : goal.returns
returns c = IsLeast-all declared_of (MemberBreaks (structs_in c.args.structs.now) c.args.index) c.args.members.now c.loop-place.place c.loop-place-test.false c.loop-place.fault c.loop-place.invariant
