-- What harts commit.
use Rattle.std.specs.Prelude.{ℕ, ◌==◌, if◌then◌else◌, List, [], ◌∷◌, Option, Some, None}
use Rattle.fk_image.specs.Limits.{count_of_word, event_of_word}

-- What the instruction at an address commits: how many operations, and which event. Most commit
-- nothing.
abbrev pub Commits : Type 0
Commits = ℕ → Option (ℕ × ℕ)

-- The commits of a commit table.
abbrev pub commits_of : List (ℕ × ℕ) → Commits
commits_of [] a = None
commits_of (entry ∷ entries) a =
    if entry.0 == a then Some (count_of_word entry.1, event_of_word entry.1)
    else commits_of entries a

-- What a hart commits by running the instruction at an address. One that ran none commits nothing.
abbrev pub commit_at : Commits → Option ℕ → Option (ℕ × ℕ)
commit_at commits None = None
commit_at commits (Some pc) = commits pc
