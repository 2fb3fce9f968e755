use Rattle.fk_sim_match.proofs.Joining.{cycles_leave_apart}
use Rattle.fk_sim_match.proofs.laws.cycles_leave_apart.Goals as goal

pub returns : goal.returns
returns c = cycles_leave_apart
