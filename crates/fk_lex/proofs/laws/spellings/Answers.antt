use Rattle.fk_lex.proofs.Spelled as spelled
use Rattle.fk_lex.proofs.laws.spellings.Goals as goal

pub returns : goal.returns
returns c = spelled.spellings
