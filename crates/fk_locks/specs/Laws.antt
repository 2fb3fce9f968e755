-- Locks in runs of texts.
use Rattle.std.specs.Prelude.{◌≡◌, ℕ, ◌≤◌, List, ◌++◌, length}
use Rattle.fk_num.specs.Limits.{most_text_bytes}
use Rattle.fk_syntax.specs.declared.facts.Facts.{Facts}
use Rattle.fk_syntax.specs.Program.{ProgramTree}
use Rattle.fk_layout.specs.Layout.{tables_by}
use Rattle.fk_compile_text.specs.Text.{IsChecked}
use Rattle.fk_locks_tokens.specs.Text.{lock_bytes}
use Rattle.fk_locks_calls.specs.Code.{HasLock}
use Rattle.fk_locks_calls.specs.Calls.{LocksExclude}

-- The program of a text that begins with the lock's text begins with the lock's functions, and its
-- locks exclude.
abbrev pub TextsExclude : Type 0
TextsExclude =
    (source user : List ℕ) (program : ProgramTree) (facts : Facts) → source ≡ lock_bytes ++ user
    → length source ≤ most_text_bytes → IsChecked source program facts
    → (lock : HasLock (tables_by program facts) program)
    × LocksExclude (tables_by program facts) program lock
