use Rattle.std.proofs.Common.{◌≡◌, ◌++◌, map, Some, drop, vec_len}
use Rattle.std.specs.List.{enumerate_from}
use Rattle.fk_isa.specs.Find.{row}
use Rattle.fk_asm.specs.Assembly.{placed, instructions}
use Rattle.fk_asm.proofs.assembler.words.Given as goal

abbrev pub invariant-loop-own : goal.invariant-loop-own
invariant-loop-own l = record {
  rows : map row l.words.items ++ map Some (map (λ word. placed l.bound word.0 word.1) (enumerate_from l.own (drop l.own l.lines))) ≡ map Some (instructions l.bound l.lines);
  count : vec_len l.words ≡ l.own;
}
