-- The rules about the names of variables and functions, where they are used and declared.
use Rattle.std.specs.Prelude.{◌≡◌, ◌⊎◌, ℕ, ◌<◌, ◌≤◌, Bool, true, false, List, Some, slice_get}
use Rattle.std.specs.Prelude.{Contains}
use Rattle.fk_syntax.specs.declared.place.Place.{Place}
use Rattle.fk_syntax.specs.Tree.{Named}
use Rattle.fk_types_names.specs.declared.names.Meaning.TheVariants.{Undeclared}
use Rattle.fk_types_names.specs.Outline.{DeclarationTree, MarkTree, Variable, Header, Opens, Closes}
use Rattle.fk_types_names.specs.Outline.{Declares, Uses, name_of}
use Rattle.fk_types_names.specs.Visible.{depth, DeclaresAt}
use Rattle.fk_types_names.specs.Means.{predeclared, UsesAt, MeansAt}

-- a name in an expression denotes nothing
abbrev pub UsesUndeclared : List MarkTree → Place → Type 0
UsesUndeclared marks place = (at : ℕ) × (name : Named) × UsesAt marks name at
    × MeansAt marks name.bytes at Undeclared × (place ≡ name.place)

-- the first index is before the second one in the same scope, which doesn't end between the two
pub record IsBefore (marks : List MarkTree) (first second : ℕ) : Type 0 where
  pub before : first < second
  pub level : depth marks first ≡ depth marks second
  pub within : (k : ℕ) → first < k → k ≤ second → depth marks first ≤ depth marks k

-- the first declaration of a name in the scope of an index, before that index
pub record IsFirstBefore (marks : List MarkTree) (bytes : List ℕ) (at earlier : ℕ) : Type 0 where
  pub declares : DeclaresAt marks bytes earlier
  pub before : IsBefore marks earlier at
  pub first : (k : ℕ) → DeclaresAt marks bytes k → IsBefore marks k at → earlier ≤ k

-- a mark and a declaration are both headers of functions
abbrev pub are_headers : MarkTree → DeclarationTree → Bool
are_headers Opens d = false
are_headers Closes d = false
are_headers (Uses name) d = false
are_headers (Declares (Variable variable)) d = false
are_headers (Declares (Header function)) (Variable variable) = false
are_headers (Declares (Header function)) (Header other) = true

-- a declaration has the name of an earlier one in its scope, and they aren't both headers
abbrev pub IsAgain : List MarkTree → ℕ → DeclarationTree → Type 0
IsAgain marks at d = (first : ℕ) × (mark : MarkTree) × IsFirstBefore marks
    (name_of d).bytes at first × (slice_get marks first ≡ Some mark) × (are_headers mark d ≡ false)

-- a declaration at file scope has a predeclared name
abbrev pub IsTaken : List MarkTree → ℕ → DeclarationTree → Type 0
IsTaken marks at d = (depth marks at ≡ 0) × Contains predeclared (name_of d).bytes

-- a name is declared twice
abbrev pub DeclaresTwice : List MarkTree → Place → Type 0
DeclaresTwice marks place = (at : ℕ) × (d : DeclarationTree)
    × (slice_get marks at ≡ Some (Declares d)) × (IsAgain marks at d ⊎ IsTaken marks at d)
    × (place ≡ (name_of d).place)
