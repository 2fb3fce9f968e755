use Rattle.fk_sim_match.proofs.Standing.{members_stand_at_stages}
use Rattle.fk_sim_match.proofs.laws.members_stand_at_stages.Goals as goal

pub returns : goal.returns
returns c = members_stand_at_stages
