-- Which declarations are visible at an index.
use Rattle.std.specs.Prelude.{◌≡◌, ◌⊎◌, ℕ, ◌-◌, ◌<◌, ◌≤◌, Bool, true, false, List, count_by, take}
use Rattle.std.specs.Prelude.{IsSomeAnd, slice_get}
use Rattle.fk_types_names.specs.Outline.{MarkTree, Opens, Closes, Declares, Uses, name_of}

abbrev pub is_opening : MarkTree → Bool
is_opening Opens = true
is_opening Closes = false
is_opening (Declares declaration) = false
is_opening (Uses name) = false

abbrev pub is_closing : MarkTree → Bool
is_closing Opens = false
is_closing Closes = true
is_closing (Declares declaration) = false
is_closing (Uses name) = false

-- the number of scopes around the mark with this index: 0 at file scope
abbrev pub depth : List MarkTree → ℕ → ℕ
depth marks at = count_by is_opening (take at marks) - count_by is_closing (take at marks)

-- a mark declares this name
abbrev pub DeclaresHere : List ℕ → MarkTree → Type 0
DeclaresHere bytes Opens = ⊥
DeclaresHere bytes Closes = ⊥
DeclaresHere bytes (Declares d) = (name_of d).bytes ≡ bytes
DeclaresHere bytes (Uses name) = ⊥

-- the mark with this index declares this name
abbrev pub DeclaresAt : List MarkTree → List ℕ → ℕ → Type 0
DeclaresAt marks bytes at = IsSomeAnd (slice_get marks at) (DeclaresHere bytes)

-- a declaration is visible at an index: it comes before that index, unless it is at file scope, and
-- its scope doesn't end between the two
pub record IsVisible (marks : List MarkTree) (at from : ℕ) : Type 0 where
  pub before : 0 < depth marks at → at < from
  pub within : (k : ℕ) → at < k → k ≤ from → depth marks at ≤ depth marks k

-- of the declarations of a name that are visible at an index, this is the first one in the
-- innermost scope
pub record IsInnermost (marks : List MarkTree) (bytes : List ℕ) (from at : ℕ) : Type 0 where
  pub declares : DeclaresAt marks bytes at
  pub visible : IsVisible marks at from
  pub innermost : (k : ℕ) → DeclaresAt marks bytes k → IsVisible marks k from
      → (depth marks k < depth marks at) ⊎ ((depth marks k ≡ depth marks at) × (at ≤ k))

-- no declaration of the name is visible
abbrev pub IsHidden : List MarkTree → List ℕ → ℕ → Type 0
IsHidden marks bytes from = (k : ℕ) → DeclaresAt marks bytes k → ¬ IsVisible marks k from
