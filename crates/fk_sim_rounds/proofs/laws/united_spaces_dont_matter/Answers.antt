use Rattle.fk_sim_rounds.proofs.Transport.{united_spaces_dont_matter}
use Rattle.fk_sim_rounds.proofs.laws.united_spaces_dont_matter.Goals as goal

pub returns : goal.returns
returns c = united_spaces_dont_matter
