-- A valid text that begins with the lock's text has locks that exclude.
use Rattle.fk_layout.specs.Layout.{tables_by}
use Rattle.fk_parse_laws.specs.Trim.{TextsAreTrim}
use Rattle.fk_check_laws.specs.Laws.{CorrectProgramsFit}
use Rattle.fk_locks_text.specs.Texts.{TextsAreCorrect, TextsHaveLocks}
use Rattle.fk_locks_calls.specs.Calls.{ProgramsExclude}
use Rattle.fk_locks.specs.Laws.{TextsExclude}

pub texts_exclude : TextsHaveLocks → TextsAreCorrect → ProgramsExclude → CorrectProgramsFit → TextsAreTrim → TextsExclude
texts_exclude have are_correct exclude fit trim source user program facts is short checked =
    let valid = are_correct source program facts short checked in
    let text = checked.parsed in
    let lock = have source user program facts is text valid in
    let fits = fit program facts valid (trim source text.tokens program text.spelled text.derived) in
    (lock, exclude (tables_by program facts) program lock fits)
