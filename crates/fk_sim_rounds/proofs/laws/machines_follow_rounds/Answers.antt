use Rattle.fk_sim_rounds.proofs.Machines.{machines_follow_rounds}
use Rattle.fk_sim_rounds.proofs.laws.machines_follow_rounds.Goals as goal

pub returns : goal.returns
returns c = machines_follow_rounds
