use Rattle.fk_sim_rounds.proofs.Cycle.{cycles_bind_again}
use Rattle.fk_sim_rounds.proofs.laws.cycles_bind_again.Goals as goal

pub returns : goal.returns
returns c = cycles_bind_again
