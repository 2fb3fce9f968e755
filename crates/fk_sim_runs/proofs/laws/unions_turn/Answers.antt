use Rattle.fk_sim_runs.proofs.United.{unions_turn}
use Rattle.fk_sim_runs.proofs.laws.unions_turn.Goals as goal

pub returns : goal.returns
returns c = unions_turn
