use Rattle.fk_sim_block.proofs.Together.{members_do_together}
use Rattle.fk_sim_block.proofs.laws.members_do_together.Goals as goal

pub returns : goal.returns
returns c = members_do_together
