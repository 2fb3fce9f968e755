use Rattle.fk_sim_match.proofs.Standing.{members_halt_at_stages}
use Rattle.fk_sim_match.proofs.laws.members_halt_at_stages.Goals as goal

pub returns : goal.returns
returns c = members_halt_at_stages
