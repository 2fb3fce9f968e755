-- The headers that have the bodies of functions, by their numbers among the declarations.
use Rattle.std.specs.Prelude.{ℕ, List, Option, map, unwrap_or}
use Rattle.fk_types_names.specs.Outline.{DeclarationTree, Variable, Header, Declares}
use Rattle.fk_types_names.specs.Means.{HasBodyAt}
use Rattle.fk_types_names.specs.Locals.{IsFirstOf}

-- the first one of each function, if there is one
abbrev pub AreBodies : List DeclarationTree → (List ℕ → Option ℕ) → Type 0
AreBodies declared bodies = (name : List ℕ)
    → IsFirstOf (HasBodyAt (map Declares declared) name) (bodies name)

-- the number that the name of a declaration has as its binding; `number` is that of the declaration
abbrev pub meant_by : (List ℕ → Option ℕ) → ℕ → DeclarationTree → ℕ
meant_by bodies number (Variable variable) = number
meant_by bodies number (Header function) = unwrap_or (bodies function.name.bytes) number
