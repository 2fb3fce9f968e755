use Rattle.fk_sim_rounds.proofs.Machines.{machines_follow_starts}
use Rattle.fk_sim_rounds.proofs.laws.machines_follow_starts.Goals as goal

pub returns : goal.returns
returns c = machines_follow_starts
