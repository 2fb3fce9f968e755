use Rattle.fk_isa.proofs.OneWord.{one_word}
use Rattle.fk_isa.proofs.encoder.encode.Goals as goal

pub returns-clause-only : goal.returns-clause-only
returns-clause-only c w f r = one_word c.args.instruction w c.placed.result f c.placed.type_inv r c.placed.ensures
