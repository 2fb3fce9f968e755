use Rattle.fk_lower_laws.proofs.Suiting.{live_words_suit}
use Rattle.fk_lower_laws.proofs.laws.live_words_suit.Goals as goal

pub returns : goal.returns
returns c = live_words_suit
