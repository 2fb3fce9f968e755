use Rattle.fk_lower_laws.proofs.Functions.{code_names_words}
use Rattle.fk_lower_laws.proofs.laws.code_names_words.Goals as goal

pub returns : goal.returns
returns c = code_names_words
