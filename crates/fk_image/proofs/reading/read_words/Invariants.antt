use Rattle.std.proofs.Common.{◌*◌, take}
use Rattle.fk_image.specs.Spelling.{Spells}
use Rattle.fk_image.proofs.reading.read_words.Given as goal

-- the words so far spell the front of the table
abbrev pub invariant-loop-i : goal.invariant-loop-i
invariant-loop-i l = Spells l.words.items (take (4 * l.i) l.table)
