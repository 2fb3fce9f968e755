-- Texts that begin with the text of the lock.
use Rattle.std.specs.Prelude.{◌≡◌, ◌≤◌, ℕ, List, ◌++◌, length}
use Rattle.fk_num.specs.Limits.{most_text_bytes}
use Rattle.fk_syntax.specs.declared.facts.Facts.{Facts}
use Rattle.fk_syntax.specs.Program.{ProgramTree}
use Rattle.fk_layout.specs.Layout.{tables_by}
use Rattle.fk_compile_text.specs.Text.{HasTree, IsChecked}
use Rattle.fk_check_laws.specs.Correct.{IsCorrect}
use Rattle.fk_locks_calls.specs.Code.{HasLock}
use Rattle.fk_locks_tokens.specs.Text.{lock_bytes}

-- The program of a text that begins with the lock's text and keeps all rules begins with the lock's
-- functions, which have the code of the lock.
abbrev pub TextsHaveLocks : Type 0
TextsHaveLocks =
    (source user : List ℕ) (program : ProgramTree) (facts : Facts) → source ≡ lock_bytes ++ user
    → HasTree source program → IsCorrect program facts → HasLock (tables_by program facts) program

-- The program of a text that isn't too long and keeps all rules is correct.
abbrev pub TextsAreCorrect : Type 0
TextsAreCorrect =
    (source : List ℕ) (program : ProgramTree) (facts : Facts) → length source ≤ most_text_bytes
    → IsChecked source program facts → IsCorrect program facts
