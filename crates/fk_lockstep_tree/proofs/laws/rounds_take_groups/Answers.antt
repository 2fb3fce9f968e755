use Rattle.fk_lockstep_tree.proofs.Taken as known
use Rattle.fk_lockstep_tree.proofs.laws.rounds_take_groups.Goals as goal

pub returns : goal.returns
returns g c = known.rounds_take_groups g.row.W.Denot
