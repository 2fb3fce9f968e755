-- None of the rows so far has the name.
use Rattle.std.proofs.Common.{map, take}
use Rattle.fk_layout_globals.specs.View.{row_of}
use Rattle.fk_compile_text.proofs.Searches.{LackName}
use Rattle.fk_compile_text.proofs.global.find_global.Given as goal

abbrev pub invariant-loop-row : goal.invariant-loop-row
invariant-loop-row l = LackName l.name (take l.row-index (map row_of l.rows))
