-- None of the items so far is a function at the place.
use Rattle.std.proofs.Common.{map, take}
use Rattle.fk_syntax.specs.ProgramView.{item_of}
use Rattle.fk_compile_text.proofs.Searches.{HasNone}
use Rattle.fk_compile_text.proofs.laid.name_at.Given as goal

abbrev pub invariant-loop-item : goal.invariant-loop-item
invariant-loop-item l = HasNone (take l.item-index (map item_of l.items)) l.place
