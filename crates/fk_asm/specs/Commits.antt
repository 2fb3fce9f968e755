-- Commit tables.
use Rattle.std.specs.Prelude.{◌≡◌, ℕ, ◌*◌, ◌/◌, ◌%◌, ◌<◌, ◌≤◌, List, map, All}
use Rattle.std.specs.List.Sorted.{IsStrictlyIncreasing}

-- A commit entry: the address of a word, and the count of its operations, 1 to 255, + 256 * its
-- event, up to 6.
pub record IsEntry (entry : ℕ × ℕ) : Type 0 where
  pub aligned : entry.0 % 4 ≡ 0
  pub counted : 1 ≤ entry.1 % 256
  pub event : entry.1 / 256 ≤ 6

abbrev pub Rise : List (ℕ × ℕ) → Type 0
Rise commits = IsStrictlyIncreasing (map (λ entry. entry.0) commits)

-- A commit table for code of `words` words.
pub record IsCommitTable (words : ℕ) (commits : List (ℕ × ℕ)) : Type 0 where
  pub entries : All IsEntry commits
  pub within : All (λ entry. entry.0 < 4 * words) commits
  pub rise : Rise commits
