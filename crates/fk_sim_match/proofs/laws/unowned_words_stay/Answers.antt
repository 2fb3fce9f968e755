use Rattle.fk_sim_match.proofs.Meeters.{unowned_words_stay}
use Rattle.fk_sim_match.proofs.laws.unowned_words_stay.Goals as goal

pub returns : goal.returns
returns c = unowned_words_stay
