use Rattle.fk_sim_runs.proofs.Runs.{machines_follow_group_runs}
use Rattle.fk_sim_runs.proofs.laws.machines_follow_group_runs.Goals as goal

pub returns : goal.returns
returns c = machines_follow_group_runs
