use Rattle.fk_lockstep_tree.proofs.Ranges as known
use Rattle.fk_lockstep_tree.proofs.laws.rounds_keep_trees.Goals as goal

pub returns : goal.returns
returns g c = known.rounds_keep_trees g.row.W.Denot
