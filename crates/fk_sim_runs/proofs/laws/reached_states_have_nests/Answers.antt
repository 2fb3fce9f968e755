use Rattle.fk_sim_runs.proofs.Reached.{reached_states_have_nests}
use Rattle.fk_sim_runs.proofs.laws.reached_states_have_nests.Goals as goal

pub returns : goal.returns
returns c = reached_states_have_nests
