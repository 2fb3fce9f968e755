-- Blocks of lines, some of which commit.
use Rattle.std.specs.Prelude.{◌≡◌, ℕ, ◌+◌, ◌*◌, ◌<◌, List, [], ◌∷◌, ◌++◌, take, map, length, Option}
use Rattle.std.specs.Prelude.{Some, None, IfSome, ◌⊎◌}
use Rattle.fk_asm.specs.declared.line.Line.{Line}
use Rattle.fk_asm.specs.Assembly.{Assembly}

-- A line, and its commit, if it has one: the count + 256 * the event.
pub record MarkedLine : Type 0 where
  pub line : Line
  pub commit : Option ℕ

abbrev pub plain : Line → MarkedLine
plain line = record { line = line; commit = None }

abbrev pub committing : Line → ℕ → MarkedLine
committing line commit = record { line = line; commit = Some commit }

abbrev pub lines_of : List MarkedLine → List Line
lines_of block = map (λ m. m.line) block

-- The commit entry of the word at an index.
abbrev pub entry_at : ℕ → Option ℕ → List (ℕ × ℕ)
entry_at k None = []
entry_at k (Some commit) = (4 * k, commit) ∷ []

-- The commit entries of lines from an index on.
abbrev pub entries_from : ℕ → List MarkedLine → List (ℕ × ℕ)
entries_from k [] = []
entries_from k (m ∷ block) = entry_at k m.commit ++ entries_from (k + 1) block

-- The assembler after a block.
abbrev pub with_block : Assembly → List MarkedLine → Assembly
with_block a block =
    record {
      lines = a.lines ++ lines_of block;
      bound = a.bound;
      commits = a.commits ++ entries_from (length a.lines) block;
    }

-- An assembler to which only `count` lines of a block were added, with their entries, and perhaps
-- with the entry of the next line.
pub record HasBegun (block : List MarkedLine) (old new : Assembly) : Type 0 where
  pub count : ℕ
  pub lines : new.lines ≡ (with_block old (take count block)).lines
  pub bound : new.bound ≡ old.bound
  pub entries : (new.commits ≡ (with_block old (take count block)).commits)
      ⊎ (new.commits ≡ (with_block old (take (count + 1) block)).commits)

-- The labels to which a block goes are made.
abbrev pub GoesToMade : List (Option ℕ) → MarkedLine → Type 0
GoesToMade bound m = IfSome m.line.label (λ label. label < length bound)
