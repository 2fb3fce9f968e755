-- The expressions of a `fork` after its number of parts give one value each, whichever branches are
-- taken in them.
use Rattle.std.specs.Prelude.{ℕ, List, [], ◌∷◌, Option, Some, None}
use Rattle.fk_syntax.specs.Program as p
use Rattle.fk_syntax.specs.Program.{Statement, Statements, FunctionTree}
use Rattle.fk_meaning_forms.specs.Tables.{Tables}
use Rattle.fk_meaning_forms.specs.Expressions.{Signature}
use Rattle.fk_lockstep_structure.specs.Valued.{IsValued, OptionValued}

module _ (tables : Tables) (functions : (binding : ℕ) → Signature) where
  abbrev mutual
    pub StatementValued : Statement → Type 0
    StatementValued (p.Block statements) = StatementsValued statements
    StatementValued (p.If spot condition first) = StatementValued first
    StatementValued (p.IfElse spot condition first second) = StatementValued first
        × StatementValued second
    StatementValued (p.While spot condition body) = StatementValued body
    StatementValued (p.DoWhile spot body condition) = StatementValued body
    StatementValued (p.For spot before condition after body) = StatementValued body
    StatementValued (p.Start spot count body) = StatementValued body
    StatementValued (p.Farm spot body) = StatementValued body
    StatementValued (p.Seq spot body) = StatementValued body
    StatementValued (p.Fork spot parts part rank body) = IsValued tables functions part
        × OptionValued tables functions rank × StatementValued body
    StatementValued statement = Unit {0}

    pub StatementsValued : Statements → Type 0
    StatementsValued p.no_statements = Unit {0}
    StatementsValued (p.statement first others) = StatementValued first × StatementsValued others

  abbrev pub BodyValued : Option Statements → Type 0
  BodyValued None = Unit {0}
  BodyValued (Some statements) = StatementsValued statements

  abbrev pub ForksAreValued : List FunctionTree → Type 0
  ForksAreValued [] = Unit {0}
  ForksAreValued (f ∷ fs) = BodyValued f.body × ForksAreValued fs
