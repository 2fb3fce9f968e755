-- Laws of each program that keeps all rules and has a layout.
use Rattle.std.specs.Prelude.{◌≡◌, ◌≤◌, length}
use Rattle.fk_syntax.specs.declared.facts.Facts.{Facts}
use Rattle.fk_syntax.specs.Program.{ProgramTree}
use Rattle.fk_layout_globals.specs.Constants.{told}
use Rattle.fk_layout_globals.specs.Rows.{firsts}
use Rattle.fk_layout.specs.Layout.{tables_by}
use Rattle.fk_layout.specs.Refusal.{Fits}
use Rattle.fk_layout_walk.specs.declared.known.ProgramTables.{ProgramTables}
use Rattle.fk_layout_walk.specs.Known.{tables_of, items_in}
use Rattle.fk_layout_walk_statements.specs.Texts.{functions_in}
use Rattle.fk_lower_text.specs.Whole.{AreWhole}
use Rattle.fk_lower_text.specs.Laid.{GoUp, CanBeLaid}
use Rattle.fk_check_laws.specs.Correct.{IsCorrect}

-- What is known is that of a program with these facts.
pub record IsKnownOf (program : ProgramTree) (facts : Facts) (known : ProgramTables) : Type 0 where
  pub tables : tables_of known ≡ tables_by program facts
  pub items : items_in known ≡ program.items

-- The bindings of the functions go up in the order of the text.
abbrev pub BindingsGoUp : Type 0
BindingsGoUp = (program : ProgramTree) (facts : Facts) (known : ProgramTables)
    → IsCorrect program facts → IsKnownOf program facts known → GoUp known 0 (functions_in known)

-- The private variables of file scope are few.
abbrev pub FirstsAreFew : Type 0
FirstsAreFew =
    (program : ProgramTree) (facts : Facts) → IsCorrect program facts
    → Fits (tables_by program facts) program.items
    → length (firsts (told facts.notes.items facts.kinds.items) program.items) ≤ 56

-- The functions can be laid if each number of an operation has room in a word.
abbrev pub TextsCanBeLaid : Type 0
TextsCanBeLaid =
    (program : ProgramTree) (facts : Facts) (known : ProgramTables) → IsCorrect program facts
    → IsKnownOf program facts known → Fits (tables_by program facts) program.items
    → AreWhole known (functions_in known) → CanBeLaid known 0 0 (functions_in known)
