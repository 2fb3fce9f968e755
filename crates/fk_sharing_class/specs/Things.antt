-- What the names of a program denote.
use Rattle.std.specs.Prelude.{◌≡◌, ◌↔◌, ℕ, Bool, true, false, List, map, Option, Some, None}
use Rattle.std.specs.Prelude.{slice_get}
use Rattle.fk_syntax.specs.Program.{DeclaredTree, FunctionTree, ProgramTree}
use Rattle.fk_types_names.specs.declared.names.Names.{Names}
use Rattle.fk_types_names.specs.declared.names.Meaning.{Meaning}
use Rattle.fk_types_names.specs.declared.names.Meaning.TheVariants as m
use Rattle.fk_types_names.specs.Outline.{DeclarationTree, Variable, Header, declarations}
use Rattle.fk_types_names.specs.View.{declaration_of}
use Rattle.fk_types_names.specs.Means.{Means}
use Rattle.fk_types_names.specs.Names.{meaning_in}
use Rattle.fk_sharing_class.specs.declared.thing.Thing.{Thing}
use Rattle.fk_sharing_class.specs.declared.thing.Thing.TheVariants.{SharedVariable, PrivateVariable}
use Rattle.fk_sharing_class.specs.declared.thing.Thing.TheVariants.{Function, Predeclared}

-- the token with this index is a name in an expression, and denotes a variable or parameter;
-- `shared` tells whether `sh` comes before it
abbrev pub MeansVariable : ProgramTree → ℕ → Bool → Type 0
MeansVariable program token shared = (number : ℕ) × (variable : DeclaredTree)
    × Means program token (m.Declared number)
    × (slice_get (declarations program) number ≡ Some (Variable variable))
    × (variable.shared ≡ shared)

-- the token with this index is a name in an expression, and denotes this
abbrev pub Is : ProgramTree → ℕ → Thing → Type 0
Is program token SharedVariable = MeansVariable program token true
Is program token PrivateVariable = MeansVariable program token false
Is program token Function = (number : ℕ) × (function : FunctionTree)
    × Means program token (m.Declared number)
    × (slice_get (declarations program) number ≡ Some (Header function))
Is program token Predeclared = Means program token m.Predeclared

-- a function gives what each token of a program denotes, if it is a name that has a meaning
abbrev pub Tells : ProgramTree → (ℕ → Option Thing) → Type 0
Tells program thing = (token : ℕ) (x : Thing) → (thing token ≡ Some x) ↔ Is program token x

-- what a variable is
abbrev pub variable_thing : Bool → Thing
variable_thing true = SharedVariable
variable_thing false = PrivateVariable

-- what a declaration declares
abbrev pub thing_of : Option DeclarationTree → Option Thing
thing_of None = None
thing_of (Some (Variable variable)) = Some (variable_thing variable.shared)
thing_of (Some (Header function)) = Some Function

-- what a name with this meaning denotes
abbrev pub thing_meant : List DeclarationTree → Option Meaning → Option Thing
thing_meant all None = None
thing_meant all (Some (m.Declared number)) = thing_of (slice_get all number)
thing_meant all (Some m.Predeclared) = Some Predeclared
thing_meant all (Some m.Undeclared) = None

-- what the token with this index denotes, by the resolved names
abbrev pub thing_in : Names → ℕ → Option Thing
thing_in names token =
    thing_meant (map declaration_of names.declarations.items) (meaning_in names token)
