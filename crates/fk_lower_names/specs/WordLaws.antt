-- The numbers of programs that keep all rules.
use Rattle.fk_syntax.specs.declared.facts.Facts.{Facts}
use Rattle.fk_syntax.specs.Program.{ProgramTree}
use Rattle.std.specs.Prelude.{◌≡◌}
use Rattle.fk_layout.specs.Layout.{tables_by}
use Rattle.fk_layout.specs.Refusal.{Fits}
use Rattle.fk_layout_walk.specs.declared.known.ProgramTables.{ProgramTables}
use Rattle.fk_layout_walk.specs.Known.{tables_of, items_in}
use Rattle.fk_layout_walk_statements.specs.Texts.{functions_in}
use Rattle.fk_lower_text.specs.Whole.{AreWhole, AreNumbered}
use Rattle.fk_parse_laws.specs.Words.{NumbersAreWords}
use Rattle.fk_lower_names.specs.WordRoom.{ItemsAreNear}
use Rattle.fk_lower_names.specs.Proper.{ProgramIsProper}
use Rattle.fk_check_laws.specs.Correct.{IsCorrect}

-- There are few words before members, and few parameters of functions.
abbrev pub MembersAreClose : Type 0
MembersAreClose = (program : ProgramTree) (facts : Facts) → IsCorrect program facts
    → ItemsAreNear (tables_by program facts) program.items

-- Each operation has a number, and each number that it takes has room in a word, if those that are
-- written in the text have.
abbrev pub NumbersHaveRoom : Type 0
NumbersHaveRoom =
    (program : ProgramTree) (facts : Facts) (known : ProgramTables) → IsCorrect program facts
    → ProgramIsProper program → Fits (tables_by program facts) program.items
    → NumbersAreWords program → tables_of known ≡ tables_by program facts
    → items_in known ≡ program.items
    → AreWhole known (functions_in known) × AreNumbered known (functions_in known)
