use Rattle.fk_lockstep_tree.proofs.Opening as known
use Rattle.fk_lockstep_tree.proofs.laws.openings_are_in_root.Goals as goal

pub returns : goal.returns
returns g c = known.openings_are_in_root g.row.W.Denot
