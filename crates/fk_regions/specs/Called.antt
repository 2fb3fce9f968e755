-- What the names of a program call.
use Rattle.std.specs.Prelude.{◌≡◌, ℕ, List, map, Option, Some, None, slice_get}
use Rattle.fk_syntax.specs.Program.{FunctionTree, ProgramTree}
use Rattle.fk_types_names.specs.declared.names.Names.{Names}
use Rattle.fk_types_names.specs.declared.names.Meaning.{Meaning}
use Rattle.fk_types_names.specs.declared.names.Meaning.TheVariants as m
use Rattle.fk_types_names.specs.Outline.{DeclarationTree, Variable, Header, declarations}
use Rattle.fk_types_names.specs.View.{declaration_of}
use Rattle.fk_types_names.specs.Means.{Means}
use Rattle.fk_types_names.specs.Names.{meaning_in}
use Rattle.fk_regions.specs.declared.callee.Callee.{Callee}
use Rattle.fk_regions.specs.declared.callee.Callee.TheVariants as c

-- the token with this index is a name in an expression, and denotes a function with this mode or is
-- predeclared. A function that is named counts as called
abbrev pub Calls : ProgramTree → ℕ → Callee → Type 0
Calls program token (c.Function mode) = (number : ℕ) × (function : FunctionTree)
    × Means program token (m.Declared number)
    × (slice_get (declarations program) number ≡ Some (Header function)) × (function.mode ≡ mode)
Calls program token c.Predeclared = Means program token m.Predeclared

-- what calls of a declaration call
abbrev pub callee_of : Option DeclarationTree → Option Callee
callee_of None = None
callee_of (Some (Variable variable)) = None
callee_of (Some (Header function)) = Some (c.Function function.mode)

-- what a name with this meaning calls
abbrev pub callee_meant : List DeclarationTree → Option Meaning → Option Callee
callee_meant all None = None
callee_meant all (Some (m.Declared number)) = callee_of (slice_get all number)
callee_meant all (Some m.Predeclared) = Some c.Predeclared
callee_meant all (Some m.Undeclared) = None

-- what the token with this index calls, by the resolved names
abbrev pub callee_in : Names → ℕ → Option Callee
callee_in names token =
    callee_meant (map declaration_of names.declarations.items) (meaning_in names token)
