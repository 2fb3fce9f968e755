-- What a reader of an outline knows at a mark.
use Rattle.std.specs.Prelude.{◌≡◌, ◌⊎◌, ℕ, ◌+◌, ◌≤◌, List, Option, map, length, slice_index}
use Rattle.fk_types_names.specs.declared.reader.Reader.{Reader}
use Rattle.fk_types_names.specs.Outline.{MarkTree}
use Rattle.fk_types_names.specs.View.{mark_of}
use Rattle.fk_types_names.specs.Visible.{depth, DeclaresAt, IsVisible}
use Rattle.fk_types_names.specs.TableView.{shown}
use Rattle.fk_types_names.specs.Locals.{IsFirstOf, Holds}

abbrev pub marks_of : Reader → List MarkTree
marks_of reader = map mark_of reader.marks.now

-- the depth at each mark, and after the last one
pub record AreDepths (marks : List MarkTree) (depths : List ℕ) : Type 0 where
  pub size : length depths ≡ length marks + 1
  pub each : (k : ℕ) → k ≤ length marks → slice_index depths k ≡ depth marks k

-- the first declaration of a name at file scope
abbrev pub IsOfFile : List MarkTree → List ℕ → Option ℕ → Type 0
IsOfFile marks name o = IsFirstOf (λ k. DeclaresAt marks name k × (depth marks k ≡ 0)) o

pub record Knows (reader : Reader) (among all : ℕ → Type 0) : Type 0 where
  pub depths : AreDepths (marks_of reader) reader.depths.items
  pub file : List ℕ → Option ℕ
  pub first : (name : List ℕ) → IsOfFile (marks_of reader) name (file name)
  pub holds : Holds (DeclaresAt (marks_of reader))
      (depth (marks_of reader)) among all file (shown reader.visible) reader.locals.items

-- the reader knows what is visible at an index
abbrev pub IsAt : Reader → ℕ → Type 0
IsAt reader at =
    Knows reader (λ i. IsVisible (marks_of reader) i at) (λ i. IsVisible (marks_of reader) i at)

-- the reader also knows the declaration at that index
abbrev pub IsPast : Reader → ℕ → Type 0
IsPast reader at = Knows reader (λ i. IsVisible (marks_of reader) i at ⊎ (i ≡ at))
    (λ i. IsVisible (marks_of reader) i at ⊎ (i ≡ at))
