use Rattle.std.proofs.Common.{map, length}
use Rattle.fk_syntax.specs.ProgramView.{item_of}
use Rattle.fk_parse_combinators.proofs.Loops.{Loops}
use Rattle.fk_parse.specs.Reading.{begins_item}
use Rattle.fk_parse.specs.Parts.{read_item_within}
use Rattle.fk_parse.proofs.item.items.Given as goal

abbrev pub invariant-loop-alloc : goal.invariant-loop-alloc
invariant-loop-alloc l = Loops begins_item (read_item_within l.left) l.initial.cursor (map item_of l.items.items) l.cursor

abbrev pub decreases-loop-alloc : goal.decreases-loop-alloc
decreases-loop-alloc l = length l.cursor
