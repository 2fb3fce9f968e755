use Rattle.fk_sim_rounds.proofs.Sum.{rounds_bind_again}
use Rattle.fk_sim_rounds.proofs.laws.rounds_bind_again.Goals as goal

pub returns : goal.returns
returns c = rounds_bind_again
