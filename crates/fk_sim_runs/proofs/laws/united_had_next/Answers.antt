use Rattle.fk_sim_runs.proofs.ReachedStages.{united_had_next}
use Rattle.fk_sim_runs.proofs.laws.united_had_next.Goals as goal

pub returns : goal.returns
returns c = united_had_next
