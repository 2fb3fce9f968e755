-- What must be noted about a statement that a group runs in lockstep. Each token that decides what
-- is run next is noted as being in a synchronous region, and no name denotes a function that may
-- not be called there. The bodies of `farm` and `seq` are left out.
use Rattle.std.specs.Prelude.{◌≡◌, ℕ, Bool, true, false, List, [], ◌∷◌, Option, Some, None}
use Rattle.fk_syntax.specs.Tree.{Named, Tree}
use Rattle.fk_syntax.specs.Program as p
use Rattle.fk_syntax.specs.Program.{DeclaredTree, Statement, Statements, FunctionTree, ProgramTree}
use Rattle.fk_meaning_forms.specs.Tables.{Tables, note}
use Rattle.fk_meaning_forms.specs.Expressions.{Coded, Signature}
use Rattle.fk_meaning_forms.specs.Statements.{Inside, executed}
use Rattle.fk_meaning_forms.specs.Program.{functions_of, binding_of, bodies_of}
use Rattle.fk_lockstep.specs.InStep.{InStep}
use Rattle.fk_lockstep.specs.Told as told

module _ (tables : Tables) (may_call : (function : ℕ) → Bool) where
  abbrev pub Decides : (at : ℕ) → Type 0
  Decides at = (note tables at).sync ≡ true

  abbrev pub Means : Named → Type 0
  Means name = may_call (note tables name.at).binding ≡ true

  -- expressions
  abbrev pub Noted : Tree → Type 0
  Noted e = told.Told Decides Means e

  abbrev pub OptionNoted : Option Tree → Type 0
  OptionNoted e = told.OptionTold Decides Means e

  abbrev pub VariablesNoted : List DeclaredTree → Type 0
  VariablesNoted variables = told.VariablesTold Decides Means variables

  -- statements
  abbrev mutual
    pub StatementNoted : Statement → Type 0
    StatementNoted p.Empty = Unit {0}
    StatementNoted (p.Expression e) = Noted e
    StatementNoted (p.Block statements) = StatementsNoted statements
    StatementNoted (p.Declare variables) = VariablesNoted variables
    StatementNoted (p.If spot condition first) = Decides spot.at × Noted condition
        × StatementNoted first
    StatementNoted (p.IfElse spot condition first second) =
        Decides spot.at × Noted condition × StatementNoted first × StatementNoted second
    StatementNoted (p.While spot condition body) = Decides spot.at × Noted condition
        × StatementNoted body
    StatementNoted (p.DoWhile spot body condition) = Decides spot.at × Noted condition
        × StatementNoted body
    StatementNoted (p.For spot before condition after body) =
        Decides spot.at × OptionNoted before × OptionNoted condition × OptionNoted after
        × StatementNoted body
    StatementNoted (p.Start spot count body) = OptionNoted count × StatementNoted body
    StatementNoted (p.Farm spot body) = Unit {0}
    StatementNoted (p.Seq spot body) = Unit {0}
    StatementNoted (p.Fork spot parts part rank body) =
        Noted parts × Noted part × OptionNoted rank × StatementNoted body
    StatementNoted (p.Barrier spot) = Unit {0}
    StatementNoted (p.Break spot) = Unit {0}
    StatementNoted (p.Continue spot) = Unit {0}
    StatementNoted (p.Return spot e) = OptionNoted e

    pub StatementsNoted : Statements → Type 0
    StatementsNoted p.no_statements = Unit {0}
    StatementsNoted (p.statement first others) = StatementNoted first × StatementsNoted others

  -- functions that may be called
  abbrev pub BodyNoted : Option Statements → Type 0
  BodyNoted None = Unit {0}
  BodyNoted (Some statements) = StatementsNoted statements

  abbrev pub FunctionsNoted : List FunctionTree → Type 0
  FunctionsNoted [] = Unit {0}
  FunctionsNoted (f ∷ fs) = (may_call (binding_of tables f) ≡ true → BodyNoted f.body)
      × FunctionsNoted fs

-- the code of such a statement is code that a group runs in step, if the code after it is; and so
-- is the code of the functions that may be called
pub record FormsAreInStep : Type 0 where
  pub statement : (tables : Tables) (functions : (binding : ℕ) → Signature)
      (may_call : (function : ℕ) → Bool)
      → (inside : Inside) (s : Statement) (rest : Coded) → StatementNoted tables may_call s
      → InStep may_call false rest → InStep may_call false (executed tables functions inside s rest)
  pub function : (tables : Tables) (program : ProgramTree) (may_call : (function : ℕ) → Bool)
      → FunctionsNoted tables may_call (functions_of program.items)
      → (binding : ℕ) → may_call binding ≡ true
      → InStep may_call false (bodies_of tables program binding)
