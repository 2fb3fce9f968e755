use Rattle.fk_sim_nodes.proofs.MeetingRuns.{members_leave_together}
use Rattle.fk_sim_nodes.proofs.laws.members_leave_together.Goals as goal

pub returns : goal.returns
returns c = members_leave_together
