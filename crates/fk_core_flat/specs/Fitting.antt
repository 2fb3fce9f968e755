-- What a program needs for its code to have the shape of flat lists: calls have their arguments and
-- a body, a loop's condition begins with an operation, and `break` and `continue` are in loops.
use Rattle.std.specs.Prelude.{◌≡◌, ℕ, Bool, true, false, ◌==◌, ◌||◌, List, [], ◌∷◌, Option, Some}
use Rattle.std.specs.Prelude.{None}
use Rattle.fk_syntax.specs.Tree.{Named, Tree, Trees}
use Rattle.fk_syntax.specs.Program as p
use Rattle.fk_syntax.specs.Program.{DeclaredTree, Statement, Statements, FunctionTree, ProgramTree}
use Rattle.fk_meaning_forms.specs.Tables.{Tables, no_binding, note}
use Rattle.fk_meaning_forms.specs.Code.{numbered}
use Rattle.fk_meaning_forms.specs.Expressions.{Coded, Signature, value}
use Rattle.fk_meaning_forms.specs.Program.{functions_of, binding_of, signature_in, bodies_of}
use Rattle.fk_meaning.specs.Calls as c
use Rattle.fk_meaning.specs.Calls.{TakesEnough}
use Rattle.fk_core.specs.CodeAt.{is_first}
use Rattle.fk_core_flat.specs.Shape.{is_closed}
use Rattle.fk_core_flat.specs.Laws.{AreShaped}

-- The binding is that of a function with a body.
abbrev pub is_defined : Tables → List FunctionTree → (binding : ℕ) → Bool
is_defined tables [] b = false
is_defined tables (f ∷ fs) b = (binding_of tables f == b) || is_defined tables fs b

module _ (tables : Tables) (functions : (binding : ℕ) → Signature)
    (has_body : (binding : ℕ) → Bool) where
  -- A called function is a predeclared one with the arguments that it takes, or one with a body.
  abbrev pub NameFits : (predeclared : Bool) → Named → Trees → Type 0
  NameFits true name arguments = TakesEnough name arguments
  NameFits false name arguments = has_body (note tables name.at).binding ≡ true

  abbrev pub Takes : Named → Trees → Type 0
  Takes name arguments = NameFits ((note tables name.at).binding == no_binding) name arguments

  abbrev pub Fits : Tree → Type 0
  Fits e = c.Fits tables functions Takes e

  abbrev pub OptionFits : Option Tree → Type 0
  OptionFits e = c.OptionFits tables functions Takes e

  abbrev pub VariablesFit : List DeclaredTree → Type 0
  VariablesFit variables = c.VariablesFit tables functions Takes variables

  -- A condition whose value is found by an operation. That of the name of a function alone would
  -- not be.
  abbrev pub ConditionFits : Tree → Type 0
  ConditionFits e = Fits e × ((rest : Coded) (first : ℕ)
      → is_first (numbered first (value tables functions e rest)) ≡ true)

  abbrev pub OptionConditionFits : Option Tree → Type 0
  OptionConditionFits None = Unit {0}
  OptionConditionFits (Some e) = ConditionFits e

  abbrev mutual
    pub StatementFits : (in_loop : Bool) → Statement → Type 0
    StatementFits l p.Empty = Unit {0}
    StatementFits l (p.Expression e) = Fits e
    StatementFits l (p.Block statements) = StatementsFit l statements
    StatementFits l (p.Declare variables) = VariablesFit variables
    StatementFits l (p.If spot condition first) = Fits condition × StatementFits l first
    StatementFits l (p.IfElse spot condition first second) = Fits condition × StatementFits l first
        × StatementFits l second
    StatementFits l (p.While spot condition body) = ConditionFits condition
        × StatementFits true body
    StatementFits l (p.DoWhile spot body condition) = ConditionFits condition
        × StatementFits true body
    StatementFits l (p.For spot before condition after body) =
        OptionFits before × OptionConditionFits condition × OptionFits after
        × StatementFits true body
    StatementFits l (p.Start spot count body) = OptionFits count × StatementFits l body
    StatementFits l (p.Farm spot body) = StatementFits l body
    StatementFits l (p.Seq spot body) = StatementFits l body
    StatementFits l (p.Fork spot parts part rank body) = Fits parts × Fits part × OptionFits rank
        × StatementFits l body
    StatementFits l (p.Barrier spot) = Unit {0}
    StatementFits l (p.Break spot) = l ≡ true
    StatementFits l (p.Continue spot) = l ≡ true
    StatementFits l (p.Return spot e) = OptionFits e

    pub StatementsFit : (in_loop : Bool) → Statements → Type 0
    StatementsFit l p.no_statements = Unit {0}
    StatementsFit l (p.statement first others) = StatementFits l first × StatementsFit l others

  abbrev pub BodyFits : Option Statements → Type 0
  BodyFits None = ⊥
  BodyFits (Some statements) = StatementsFit false statements

  abbrev pub FunctionsFit : List FunctionTree → Type 0
  FunctionsFit [] = Unit {0}
  FunctionsFit (f ∷ fs) = BodyFits f.body × FunctionsFit fs

abbrev pub ProgramFits : Tables → ProgramTree → Type 0
ProgramFits tables program =
    let fs = functions_of program.items in
    FunctionsFit tables (signature_in tables fs) (is_defined tables fs) fs

-- The code of a program that fits has the shape of flat lists.
abbrev pub FormsAreShaped : Type 0
FormsAreShaped = (tables : Tables) (program : ProgramTree) → ProgramFits tables program
    → AreShaped (bodies_of tables program)

-- The code of each function with a body ends at an operation that ends the function.
abbrev pub FunctionsAreClosed : Type 0
FunctionsAreClosed =
    (tables : Tables) (program : ProgramTree) → ProgramFits tables program
    → (binding : ℕ) → is_defined tables (functions_of program.items) binding ≡ true
    → is_closed (bodies_of tables program binding) ≡ true
