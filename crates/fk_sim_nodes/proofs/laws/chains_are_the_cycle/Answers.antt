use Rattle.fk_sim_nodes.proofs.Chains as chains
use Rattle.fk_sim_nodes.proofs.laws.chains_are_the_cycle.Goals as goal

pub returns : goal.returns
returns g c = chains.chains_are_the_cycle g.row.S.Denot g.row.P.Denot g.row.D.Denot
