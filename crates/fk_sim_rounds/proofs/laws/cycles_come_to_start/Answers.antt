use Rattle.fk_sim_rounds.proofs.Nearer.{cycles_come_to_start}
use Rattle.fk_sim_rounds.proofs.laws.cycles_come_to_start.Goals as goal

pub returns : goal.returns
returns c = cycles_come_to_start
