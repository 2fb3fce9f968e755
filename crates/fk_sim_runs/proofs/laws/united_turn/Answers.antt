use Rattle.fk_sim_runs.proofs.United.{united_turn}
use Rattle.fk_sim_runs.proofs.laws.united_turn.Goals as goal

pub returns : goal.returns
returns c = united_turn
