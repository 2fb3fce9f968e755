use Rattle.std.proofs.Common.{◌≡◌, ◌+◌, ◌≤◌, drop}
use Rattle.fk_lex.specs.Moves.{after}
use Rattle.fk_lex.proofs.position.Position.after.Given as goal

abbrev pub invariant-loop-byte : goal.invariant-loop-byte
invariant-loop-byte l = record {
  left : after l.fn.self l.passed ≡ after l.at (drop l.byte-index l.passed);
  lines : l.at.lines ≤ l.fn.self.lines + l.byte-index;
  offset : l.at.offset ≡ l.fn.self.offset + l.byte-index;
}
