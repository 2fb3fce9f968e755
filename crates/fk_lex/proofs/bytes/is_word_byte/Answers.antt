use Rattle.std.proofs.Common.{refl, arith}
use Rattle.fk_lex.specs.declared.bytes.TheConstants.{WORD_BYTES}
use Rattle.fk_lex.proofs.WordBytes.{told}
use Rattle.fk_lex.proofs.bytes.is_word_byte.Goals as goal

pub returns : goal.returns
returns c = told WORD_BYTES c.args.byte refl refl (omega arith)
