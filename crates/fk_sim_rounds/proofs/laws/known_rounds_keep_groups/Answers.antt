use Rattle.fk_sim_rounds.proofs.Rest.{known_rounds_keep_groups}
use Rattle.fk_sim_rounds.proofs.laws.known_rounds_keep_groups.Goals as goal

pub returns : goal.returns
returns c = known_rounds_keep_groups
