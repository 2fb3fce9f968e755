-- None of the items so far is `main`.
use Rattle.std.proofs.Common.{◌≡◌, map, drop}
use Rattle.fk_syntax.specs.ProgramView.{item_of}
use Rattle.fk_meaning_forms.specs.Program.{functions_of, main_in}
use Rattle.fk_layout_walk.specs.Known.{tables_of}
use Rattle.fk_layout_walk_statements.specs.Texts.{functions_in}
use Rattle.fk_lower_text.proofs.main_entry.main_binding.Given as goal

abbrev pub invariant-loop-item : goal.invariant-loop-item
invariant-loop-item l =
    main_in (tables_of l.known) (functions_of (map item_of (drop l.item-index l.known.items.now))) ≡ main_in (tables_of l.known) (functions_in l.known)
