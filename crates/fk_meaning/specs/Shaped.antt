-- The requirements on the functions of a program, and what follows for its runs. Nothing leads out
-- of parts and bodies, and calls satisfy the rules of types.
use Rattle.std.specs.Prelude.{◌≡◌, ℕ, Bool, true, false, ◌==◌, List, [], ◌∷◌, Option, Some, None}
use Rattle.std.specs.Prelude.{if◌then◌else◌}
use Rattle.fk_syntax.specs.Tree.{Named, Tree, Trees}
use Rattle.fk_syntax.specs.Program as p
use Rattle.fk_syntax.specs.Program.{DeclaredTree, Statement, Statements, FunctionTree, ProgramTree}
use Rattle.fk_meaning.specs.Round.{Step}
use Rattle.fk_meaning_forms.specs.Code.{Code}
use Rattle.fk_meaning_forms.specs.Tables.{Tables, no_binding, note}
use Rattle.fk_meaning_forms.specs.Expressions.{Signature}
use Rattle.fk_meaning_forms.specs.Program.{functions_of, signature_in, bodies_of}
use Rattle.fk_meaning.specs.Next.{Work, going, next}
use Rattle.fk_meaning.specs.Sites.{after_ways}
use Rattle.fk_meaning.specs.Behind.{GoesOnFrom}
use Rattle.fk_meaning.specs.Shape.{Exits, none, of_function, of_turn, Shape}
use Rattle.fk_meaning.specs.Calls as c
use Rattle.fk_meaning.specs.Calls.{TakesEnough}

-- a function of the program may have any arguments
abbrev pub Takes : Tables → Named → Trees → Type 0
Takes tables name arguments = ((note tables name.at).binding == no_binding) ≡ true
    → TakesEnough name arguments

module _ (tables : Tables) (functions : (binding : ℕ) → Signature) where
  abbrev pub is_split : (at : ℕ) → Bool
  is_split at = (note tables at).splits

  abbrev pub of_branch : (split : Bool) → Exits → Exits
  of_branch split x = if split then none else x

  abbrev pub Fits : Tree → Type 0
  Fits e = c.Fits tables functions (Takes tables) e

  abbrev pub OptionFits : Option Tree → Type 0
  OptionFits e = c.OptionFits tables functions (Takes tables) e

  abbrev pub VariablesFit : List DeclaredTree → Type 0
  VariablesFit variables = c.VariablesFit tables functions (Takes tables) variables

  abbrev mutual
    pub StatementShaped : Exits → Statement → Type 0
    StatementShaped x p.Empty = Unit {0}
    StatementShaped x (p.Expression e) = Fits e
    StatementShaped x (p.Block statements) = StatementsShaped x statements
    StatementShaped x (p.Declare variables) = VariablesFit variables
    StatementShaped x (p.If spot condition first) = Fits condition
        × StatementShaped (of_branch (is_split spot.at) x) first
    StatementShaped x (p.IfElse spot condition first second) =
        Fits condition × StatementShaped (of_branch (is_split spot.at) x) first
        × StatementShaped (of_branch (is_split spot.at) x) second
    StatementShaped x (p.While spot condition body) = Fits condition
        × StatementShaped (of_turn (is_split spot.at) x) body
    StatementShaped x (p.DoWhile spot body condition) = Fits condition
        × StatementShaped (of_turn (is_split spot.at) x) body
    StatementShaped x (p.For spot before condition after body) =
        OptionFits before × OptionFits condition × OptionFits after
        × StatementShaped (of_turn (is_split spot.at) x) body
    StatementShaped x (p.Start spot count body) = OptionFits count × StatementShaped none body
    StatementShaped x (p.Farm spot body) = StatementShaped none body
    StatementShaped x (p.Seq spot body) = StatementShaped none body
    StatementShaped x (p.Fork spot parts part rank body) = Fits parts × Fits part × OptionFits rank
        × StatementShaped none body
    StatementShaped x (p.Barrier spot) = Unit {0}
    StatementShaped x (p.Break spot) = x.breaks ≡ true
    StatementShaped x (p.Continue spot) = x.continues ≡ true
    StatementShaped x (p.Return spot e) = (x.returns ≡ true) × OptionFits e

    pub StatementsShaped : Exits → Statements → Type 0
    StatementsShaped x p.no_statements = Unit {0}
    StatementsShaped x (p.statement first others) = StatementShaped x first
        × StatementsShaped x others

  abbrev pub BodyShaped : Option Statements → Type 0
  BodyShaped None = Unit {0}
  BodyShaped (Some statements) = StatementsShaped of_function statements

  abbrev pub FunctionsShaped : List FunctionTree → Type 0
  FunctionsShaped [] = Unit {0}
  FunctionsShaped (f ∷ fs) = BodyShaped f.body × FunctionsShaped fs

abbrev pub ProgramShaped : Tables → ProgramTree → Type 0
ProgramShaped tables program =
    let fs = functions_of program.items in FunctionsShaped tables (signature_in tables fs) fs

-- such programs have code whose parts and bodies are nested
abbrev pub ProgramsAreNested : Type 0
ProgramsAreNested =
    (tables : Tables) (program : ProgramTree) → ProgramShaped tables program
    → (binding : ℕ) → Shape false false of_function (bodies_of tables program binding)

-- whichever branches a run of such code takes, each operation follows the nesting: at the end of a
-- part a processor has the same work left as the processors that waited for it, and similarly for a
-- body
abbrev pub PartsEndWhereOthersWait : Type 0
PartsEndWhereOthersWait =
    (bodies : (binding : ℕ) → Code ℕ)
    → ((binding : ℕ) → Shape false false of_function (bodies binding))
    → (main : ℕ) (ways : List Bool) (step : Step Work)
    → next bodies (after_ways (next bodies) ways (going (bodies main) [])) ≡ Some step
    → GoesOnFrom (after_ways (next bodies) ways (going (bodies main) [])) step
