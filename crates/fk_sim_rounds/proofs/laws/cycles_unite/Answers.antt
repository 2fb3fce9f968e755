use Rattle.fk_sim_rounds.proofs.Unite.{cycles_unite}
use Rattle.fk_sim_rounds.proofs.laws.cycles_unite.Goals as goal

pub returns : goal.returns
returns c = cycles_unite
