use Rattle.fk_sim_runs.proofs.Groups.{reached_groups_have_next}
use Rattle.fk_sim_runs.proofs.laws.reached_groups_have_next.Goals as goal

pub returns : goal.returns
returns c = reached_groups_have_next
