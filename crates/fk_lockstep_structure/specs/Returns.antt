-- Functions that return a value exactly if they have a result.
use Rattle.std.specs.Prelude.{◌≡◌, Bool, false, not, List, [], ◌∷◌, Option, Some, None, is_some}
use Rattle.fk_syntax.specs.Program as p
use Rattle.fk_syntax.specs.Program.{Statement, Statements, FunctionTree}
use Rattle.fk_meaning_forms.specs.Statements.{is_nothing}
use Rattle.fk_meaning_forms.specs.Program.{is_main}

module _ (gives : Bool) where
  abbrev mutual
    pub StatementReturns : Statement → Type 0
    StatementReturns (p.Block statements) = StatementsReturn statements
    StatementReturns (p.If spot condition first) = StatementReturns first
    StatementReturns (p.IfElse spot condition first second) = StatementReturns first
        × StatementReturns second
    StatementReturns (p.While spot condition body) = StatementReturns body
    StatementReturns (p.DoWhile spot body condition) = StatementReturns body
    StatementReturns (p.For spot before condition after body) = StatementReturns body
    StatementReturns (p.Start spot count body) = StatementReturns body
    StatementReturns (p.Farm spot body) = StatementReturns body
    StatementReturns (p.Seq spot body) = StatementReturns body
    StatementReturns (p.Fork spot parts part rank body) = StatementReturns body
    StatementReturns (p.Return spot e) = is_some e ≡ gives
    StatementReturns statement = Unit {0}

    pub StatementsReturn : Statements → Type 0
    StatementsReturn p.no_statements = Unit {0}
    StatementsReturn (p.statement first others) = StatementReturns first × StatementsReturn others

  abbrev pub BodyReturns : Option Statements → Type 0
  BodyReturns None = Unit {0}
  BodyReturns (Some statements) = StatementsReturn statements

-- a `return` of `main` ends it, with a value or without
abbrev pub FunctionsReturn : List FunctionTree → Type 0
FunctionsReturn [] = Unit {0}
FunctionsReturn (f ∷ fs) = (is_main f ≡ false → BodyReturns (not (is_nothing f.result)) f.body)
    × FunctionsReturn fs
