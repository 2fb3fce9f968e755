use Rattle.fk_gen_group.proofs.Turns.{members_leave_together}
use Rattle.fk_gen_group.proofs.laws.members_leave_together.Goals as goal

pub returns : goal.returns
returns c = members_leave_together
