use Rattle.fk_sim_rounds.proofs.Comes.{members_come_to_stages}
use Rattle.fk_sim_rounds.proofs.laws.members_come_to_stages.Goals as goal

pub returns : goal.returns
returns c = members_come_to_stages
