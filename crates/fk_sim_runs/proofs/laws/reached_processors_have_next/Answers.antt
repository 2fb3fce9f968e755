use Rattle.fk_sim_runs.proofs.Nexts.{reached_processors_have_next}
use Rattle.fk_sim_runs.proofs.laws.reached_processors_have_next.Goals as goal

pub returns : goal.returns
returns c = reached_processors_have_next
