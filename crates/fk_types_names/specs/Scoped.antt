-- What is visible at each mark of a program.
use Rattle.std.specs.Prelude.{◌≡◌, ℕ, ◌<◌, List, Option, MatchOption, IsSomeAnd, length, slice_get}
use Rattle.std.specs.Option.{option_and_then}
use Rattle.fk_syntax.specs.Program.{ProgramTree}
use Rattle.fk_types_names.specs.declared.scoped.ScopedMarks.{ScopedMarks}
use Rattle.fk_types_names.specs.Outline.{MarkTree, Opens, Closes, Declares, Uses, name_of, outline}
use Rattle.fk_types_names.specs.OutlineView.{marks_in}
use Rattle.fk_types_names.specs.Visible.{IsHidden, IsInnermost}
use Rattle.fk_types_names.specs.Reading.{AreDepths}

-- a mark declares or uses this name
abbrev pub NamesHere : List ℕ → MarkTree → Type 0
NamesHere bytes Opens = ⊥
NamesHere bytes Closes = ⊥
NamesHere bytes (Declares d) = (name_of d).bytes ≡ bytes
NamesHere bytes (Uses name) = name.bytes ≡ bytes

-- the mark with this index declares or uses this name
abbrev pub NamesAt : List MarkTree → List ℕ → ℕ → Type 0
NamesAt marks bytes at = IsSomeAnd (slice_get marks at) (NamesHere bytes)

abbrev pub found_at : List (Option ℕ) → ℕ → Option ℕ
found_at found at = option_and_then (λ o. o) (slice_get found at)

-- what is found for each mark before an index is the innermost declaration of its name
pub record AreInnermost (marks : List MarkTree) (found : List (Option ℕ)) (upto : ℕ) : Type 0 where
  pub size : length found ≡ upto
  pub each : (at : ℕ) (bytes : List ℕ) → at < upto → NamesAt marks bytes at
      → MatchOption (found_at found at) (IsHidden marks bytes at) (IsInnermost marks bytes at)

abbrev pub all_marks : ScopedMarks → List MarkTree
all_marks scoped = marks_in scoped.outline

-- the tables are those of the marks
pub record AreSound (scoped : ScopedMarks) : Type 0 where
  pub depths : AreDepths (all_marks scoped) scoped.depths.items
  pub innermost :
      AreInnermost (all_marks scoped) scoped.innermost.items (length (all_marks scoped))

-- the marks are those of a program
pub record AreScoped (program : ProgramTree) (scoped : ScopedMarks) : Type 0 where
  pub marks : all_marks scoped ≡ outline program
  pub sound : AreSound scoped
