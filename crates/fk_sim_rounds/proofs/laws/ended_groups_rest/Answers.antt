use Rattle.fk_sim_rounds.proofs.Rest.{ended_groups_rest}
use Rattle.fk_sim_rounds.proofs.laws.ended_groups_rest.Goals as goal

pub returns : goal.returns
returns c = ended_groups_rest
