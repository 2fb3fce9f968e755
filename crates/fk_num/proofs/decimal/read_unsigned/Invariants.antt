use Rattle.fk_num.proofs.Numerals.{ReadsOn}
use Rattle.fk_num.proofs.decimal.read_unsigned.Given as goal

abbrev pub invariant-loop-byte : goal.invariant-loop-byte
invariant-loop-byte l = ReadsOn l.text l.byte-index l.value
