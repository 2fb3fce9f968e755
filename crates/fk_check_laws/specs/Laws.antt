-- Programs that keep all rules satisfy what flat lists require.
use Rattle.fk_syntax.specs.declared.facts.Facts.{Facts}
use Rattle.fk_syntax.specs.Program.{ProgramTree}
use Rattle.fk_layout.specs.Layout.{tables_by}
use Rattle.fk_core_flat.specs.Fitting.{ProgramFits}
use Rattle.fk_parse_laws.specs.Trim.{ProgramIsTrim}
use Rattle.fk_check_laws.specs.Correct.{IsCorrect}
use Rattle.fk_check_laws.specs.Conditions.{ConditionsBegin}

-- calls have their arguments and a body, conditions of loops begin with an operation, and `break`
-- and `continue` are in loops. The program thus fits, if its tree is trim, as that of every text is
abbrev pub CorrectProgramsFit : Type 0
CorrectProgramsFit =
    (program : ProgramTree) (facts : Facts) → IsCorrect program facts → ProgramIsTrim program
    → ProgramFits (tables_by program facts) program

-- the conditions of its loops begin with an operation
abbrev pub ConditionsOfLoopsBegin : Type 0
ConditionsOfLoopsBegin =
    (program : ProgramTree) (facts : Facts) → IsCorrect program facts → ProgramIsTrim program
    → ConditionsBegin (tables_by program facts) program
