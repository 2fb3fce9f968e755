use Rattle.fk_sim_nodes.proofs.MeetingRuns.{last_arrival_frees_all}
use Rattle.fk_sim_nodes.proofs.laws.last_arrival_frees_all.Goals as goal

pub returns : goal.returns
returns c = last_arrival_frees_all
