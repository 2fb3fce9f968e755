use Rattle.std.proofs.Common.{ℕ, ◌<◌}
use Rattle.fk_elf.specs.Refusals.{IsHeaderByte}
use Rattle.fk_elf.proofs.reading.read_header.Given as goal

-- the bytes so far are those of the headers
abbrev pub invariant-loop-offset : goal.invariant-loop-offset
invariant-loop-offset l = (k : ℕ) → k < l.offset → IsHeaderByte l.bytes k
