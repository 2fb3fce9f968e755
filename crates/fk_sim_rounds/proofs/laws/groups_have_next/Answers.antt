use Rattle.fk_sim_rounds.proofs.Program.{groups_have_next}
use Rattle.fk_sim_rounds.proofs.laws.groups_have_next.Goals as goal

pub returns : goal.returns
returns c = groups_have_next
