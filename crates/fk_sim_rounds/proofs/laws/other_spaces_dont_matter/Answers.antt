use Rattle.fk_sim_rounds.proofs.Transport.{other_spaces_dont_matter}
use Rattle.fk_sim_rounds.proofs.laws.other_spaces_dont_matter.Goals as goal

pub returns : goal.returns
returns c = other_spaces_dont_matter
