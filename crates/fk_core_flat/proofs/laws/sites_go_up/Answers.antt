use Rattle.fk_core_flat.proofs.Counts as counts
use Rattle.fk_core_flat.proofs.laws.sites_go_up.Goals as goal

pub returns : goal.returns
returns g c = counts.sites_go_up g.row.A.Denot
