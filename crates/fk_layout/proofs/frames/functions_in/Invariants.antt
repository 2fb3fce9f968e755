-- The functions so far, and those of the rest, are all.
use Rattle.std.proofs.Common.{◌≡◌, ◌++◌, map, drop}
use Rattle.fk_syntax.specs.ProgramView.{item_of}
use Rattle.fk_meaning_forms.specs.Program.{functions_of}
use Rattle.fk_layout.specs.Frames.{functions_behind}
use Rattle.fk_layout.proofs.frames.functions_in.Given as goal

abbrev pub invariant-loop-item : goal.invariant-loop-item
invariant-loop-item l = functions_behind l.list.items ++ functions_of (map item_of (drop l.item-index l.items)) ≡ functions_of (map item_of l.items)
