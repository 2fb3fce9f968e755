use Rattle.fk_lockstep_tree.proofs.Known as known
use Rattle.fk_lockstep_tree.proofs.laws.rounds_are_known.Goals as goal

pub returns : goal.returns
returns g c = known.rounds_are_known g.row.W.Denot
