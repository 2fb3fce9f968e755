use Rattle.fk_isa.proofs.OneWord.{one_word}
use Rattle.fk_isa.proofs.laws.one_word.Goals as goal

pub returns : goal.returns
returns c = one_word
