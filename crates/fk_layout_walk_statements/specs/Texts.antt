-- The state of a visitor after it has been shown the operations of a text, function by function.
use Rattle.std.specs.Prelude.{ℕ, List, [], ◌∷◌}
use Rattle.fk_syntax.specs.declared.place.Place.{Place}
use Rattle.fk_syntax.specs.Program.{FunctionTree}
use Rattle.fk_meaning_forms.specs.Expressions.{Coded}
use Rattle.fk_meaning_forms.specs.Program as f
use Rattle.fk_meaning_forms.specs.Program.{code_of, sites_in}
use Rattle.fk_layout_walk.specs.declared.known.ProgramTables.{ProgramTables}
use Rattle.fk_layout_walk.specs.declared.visitor.Event.{Event}
use Rattle.fk_layout_walk.specs.declared.visitor.Mark.{Mark}
use Rattle.fk_layout_walk.specs.Known.{tables_of, items_in, functions_of}
use Rattle.fk_layout_walk.specs.Through.{through}

-- the functions of the text, the code of one of them, and the sites of the text
abbrev pub functions_in : ProgramTables → List FunctionTree
functions_in known = f.functions_of (items_in known)

abbrev pub code_in : ProgramTables → FunctionTree → Coded
code_in known function = code_of (tables_of known) (functions_in known) function

abbrev pub sites_of_text : ProgramTables → List (ℕ × Place)
sites_of_text known = sites_in (tables_of known) (functions_in known) (functions_in known)

-- one function after the other
abbrev pub through_all : {S : Type 0} → (S → Event → S) → (S → Mark) → ProgramTables → S
    → List FunctionTree → S
through_all after mark known s [] = s
through_all after mark known s (function ∷ others) =
    through_all after mark known
    (through after mark (functions_of known) s (code_in known function)) others
