use Rattle.std.proofs.Common.{◌≡◌, ◌*◌, ◌++◌, drop}
use Rattle.fk_top.specs.Outcome.{listing}
use Rattle.fk_top.proofs.bytes.list_code.Given as goal

abbrev pub invariant-loop-word : goal.invariant-loop-word
invariant-loop-word l = record {
  address : l.address ≡ 4 * l.word-index;
  so_far : l.lines.items ++ listing l.address (drop l.word-index l.code) ≡ listing 0 l.code;
}
