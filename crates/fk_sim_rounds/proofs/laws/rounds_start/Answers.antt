use Rattle.fk_sim_rounds.proofs.Starts.{rounds_start}
use Rattle.fk_sim_rounds.proofs.laws.rounds_start.Goals as goal

pub returns : goal.returns
returns c = rounds_start
