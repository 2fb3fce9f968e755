use Rattle.fk_gen_group.proofs.Turns.{members_leave_in_ten}
use Rattle.fk_gen_group.proofs.laws.members_leave_in_ten.Goals as goal

pub returns : goal.returns
returns c = members_leave_in_ten
