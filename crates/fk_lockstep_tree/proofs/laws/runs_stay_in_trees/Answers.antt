use Rattle.fk_lockstep_tree.proofs.Runs as known
use Rattle.fk_lockstep_tree.proofs.laws.runs_stay_in_trees.Goals as goal

pub returns : goal.returns
returns g c = known.runs_stay_in_trees g.row.W.Denot
