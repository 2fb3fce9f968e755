use Rattle.fk_sim_rounds.proofs.Results.{cycles_are_results}
use Rattle.fk_sim_rounds.proofs.laws.cycles_are_results.Goals as goal

pub returns : goal.returns
returns c = cycles_are_results
