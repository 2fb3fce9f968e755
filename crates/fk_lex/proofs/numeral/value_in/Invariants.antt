use Rattle.std.proofs.Common.{◌≡◌, ◌<◌, ◌^◌, drop}
use Rattle.fk_lex.specs.Kinds.{value_in}
use Rattle.fk_lex.proofs.numeral.value_in.Given as goal

abbrev pub invariant-loop-byte : goal.invariant-loop-byte
invariant-loop-byte l = record {
  small : l.value < 2 ^ 32;
  left : value_in l.base 0 l.digits ≡ value_in l.base l.value (drop l.byte-index l.digits);
}
