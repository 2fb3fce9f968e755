use Rattle.fk_lockstep.proofs.Untouched as untouched
use Rattle.fk_lockstep.proofs.laws.untouched_nodes_stay.Goals as goal

pub returns : goal.returns
returns g c = untouched.untouched_nodes_stay g.row.W.Denot
