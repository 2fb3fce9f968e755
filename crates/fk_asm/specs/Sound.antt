-- The invariant of an assembler.
use Rattle.std.specs.Prelude.{ℕ, ◌*◌, ◌^◌, ◌<◌, ◌≤◌, List, length, All}
use Rattle.fk_isa.specs.Fits.{Fits}
use Rattle.fk_asm.specs.declared.line.Line.{Line}
use Rattle.fk_asm.specs.Commits.{IsEntry, Rise}

-- The words have addresses, the fields of all instructions are in range, and the commit entries
-- rise, at most to the next word.
pub record IsSound (lines : List Line) (commits : List (ℕ × ℕ)) : Type 0 where
  pub few : length lines < 2 ^ 30
  pub fit : All (λ line. Fits line.instruction) lines
  pub entries : All IsEntry commits
  pub within : All (λ entry. entry.0 ≤ 4 * length lines) commits
  pub rise : Rise commits
