use Rattle.fk_meaning_forms.proofs.Ranks as ranks
use Rattle.fk_meaning_forms.proofs.laws.sites_are_ranks.Goals as goal

pub returns : goal.returns
returns g c = ranks.sites_are_ranks g.row.A.Denot
