use Rattle.fk_lower_laws.proofs.Own.{names_have_words}
use Rattle.fk_lower_laws.proofs.laws.names_have_words.Goals as goal

pub returns : goal.returns
returns c = names_have_words
