use Rattle.fk_parse_laws.proofs.WordsInPrograms.{texts_have_words}
use Rattle.fk_parse_laws.proofs.laws.texts_have_words.Goals as goal

pub returns : goal.returns
returns c = texts_have_words
