use Rattle.fk_gen_group.proofs.Chains.{meeters_have_chains}
use Rattle.fk_gen_group.proofs.laws.meeters_have_chains.Goals as goal

pub returns : goal.returns
returns g c = meeters_have_chains g.row.S.Denot g.row.P.Denot g.row.D.Denot
