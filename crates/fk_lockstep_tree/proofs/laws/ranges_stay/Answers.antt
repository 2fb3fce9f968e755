use Rattle.fk_lockstep_tree.proofs.Ranges as known
use Rattle.fk_lockstep_tree.proofs.laws.ranges_stay.Goals as goal

pub returns : goal.returns
returns g c = known.ranges_stay g.row.W.Denot
