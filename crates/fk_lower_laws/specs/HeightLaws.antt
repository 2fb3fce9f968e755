-- The depths given for a text are those of its code.
use Rattle.std.specs.Prelude.{◌≡◌, List}
use Rattle.fk_syntax.specs.Program.{ProgramTree}
use Rattle.fk_meaning_forms.specs.Program.{bodies_of}
use Rattle.fk_layout_walk.specs.declared.known.ProgramTables.{ProgramTables}
use Rattle.fk_layout_walk.specs.Known.{tables_of, items_in}
use Rattle.fk_layout_walk_statements.specs.Texts.{functions_in}
use Rattle.fk_core.specs.declared.op.CoreOp.{CoreOp}
use Rattle.fk_core_flat.specs.Fitting.{ProgramFits}
use Rattle.fk_lower.specs.Depths.{AreTold}
use Rattle.fk_lower_text.specs.Depths.{depths_of}
use Rattle.fk_meaning.specs.Shaped.{ProgramShaped}
use Rattle.fk_core_typing.specs.Typed.{AreTyped}
use Rattle.fk_core_typing.specs.Laws.{HasHeightsOf}
use Rattle.fk_lower_laws.specs.Asked.{place_of, frame_of}

-- The depths of a list are those of the text's code, if that is well typed, and its parts are
-- nested.
abbrev pub ListsHaveHeights : Type 0
ListsHaveHeights =
    (known : ProgramTables) (program : ProgramTree) (core : List CoreOp)
    → program.items ≡ items_in known
    → ProgramFits (tables_of known) program → ProgramShaped (tables_of known) program
    → AreTyped (place_of (tables_of known) program) (frame_of (tables_of known) program)
    (bodies_of (tables_of known) program)
    → AreTold (depths_of known (functions_in known)) core
    → HasHeightsOf (bodies_of (tables_of known) program) core (place_of (tables_of known) program)
