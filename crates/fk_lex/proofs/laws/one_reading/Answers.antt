use Rattle.fk_lex.proofs.Determined as determined
use Rattle.fk_lex.proofs.laws.one_reading.Goals as goal

pub returns : goal.returns
returns c = determined.one_reading
