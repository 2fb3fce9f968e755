-- What is told so far comes, by the items that are left, to what is told of all.
use Rattle.std.proofs.Common.{◌≡◌, map, drop}
use Rattle.fk_syntax.specs.ProgramView.{item_of}
use Rattle.fk_meaning_forms.specs.Program.{functions_of}
use Rattle.fk_layout_walk_statements.specs.Texts.{functions_in}
use Rattle.fk_lower_text.specs.Telling.{through_functions}
use Rattle.fk_lower_text.proofs.depths.depths_of.Given as goal

abbrev pub invariant-loop-item : goal.invariant-loop-item
invariant-loop-item l =
    through_functions l.known l.depths (functions_of (map item_of (drop l.item-index l.known.items.now)))
    ≡ through_functions l.known l.initial.depths (functions_in l.known)
