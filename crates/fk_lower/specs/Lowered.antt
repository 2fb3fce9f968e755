-- The functions of a program in one list, one after another in the order of their bindings.
use Rattle.std.specs.Prelude.{◌≡◌, ℕ, ◌+◌, List, [], ◌∷◌, ◌++◌, length, slice_get, Option, Some}
use Rattle.std.specs.Prelude.{None, false}
use Rattle.fk_meaning_forms.specs.Code.{Code, done}
use Rattle.fk_core.specs.declared.op.CoreOp.{CoreOp}
use Rattle.fk_core_flat.specs.Items.{Item, Has}
use Rattle.fk_core_flat.specs.Flat.{flat}
use Rattle.fk_lower.specs.Spans.{place}
use Rattle.fk_lower.specs.Tree.{Part, code_of, IsPartMeasured}
use Rattle.fk_lower.specs.Written.{written}

abbrev pub body_by : Option Part → Code ℕ
body_by None = done
body_by (Some part) = code_of part.pieces

-- The code of each function. Where there is no function there is no code.
abbrev pub bodies_in : List Part → (binding : ℕ) → Code ℕ
bodies_in parts binding = body_by (slice_get parts binding)

abbrev pub AreMeasured : List Part → Type 0
AreMeasured [] = Unit {0}
AreMeasured (part ∷ parts) = IsPartMeasured part × AreMeasured parts

-- The length of all lists together.
abbrev pub total : List Part → ℕ
total [] = 0
total (part ∷ parts) = part.spans.far.extent + total parts

-- The entries of functions that are written from an index on, in a list with this end.
abbrev pub entries_from : (at end : ℕ) → List Part → List ℕ
entries_from at end [] = []
entries_from at end (part ∷ parts) =
    place part.spans.far.start None at end ∷ entries_from (at + part.spans.far.extent) end parts

abbrev pub written_from : (entry : (binding : ℕ) → ℕ) → (at end : ℕ) → List Part
    → List (Option Item)
written_from entry at end [] = []
written_from entry at end (part ∷ parts) = written entry false None at end part.pieces
    ++ written_from entry (at + part.spans.far.extent) end parts

-- The flat lists of functions, one after another.
abbrev pub all_flat : (entry : (binding : ℕ) → ℕ) → (at end : ℕ) → List Part → List Item
all_flat entry at end [] = []
all_flat entry at end (part ∷ parts) = flat entry false None at end (code_of part.pieces)
    ++ all_flat entry (at + part.spans.far.extent) end parts

-- A list has these items and no others.
abbrev pub IsListOf : List CoreOp → List Item → Type 0
IsListOf core items = Has core 0 items × (length core ≡ length items)
