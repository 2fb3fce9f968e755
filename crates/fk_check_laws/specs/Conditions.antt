-- Loops whose condition begins with an operation.
use Rattle.std.specs.Prelude.{◌≡◌, ℕ, true, List, [], ◌∷◌, Option, Some, None}
use Rattle.fk_syntax.specs.Tree.{Tree}
use Rattle.fk_syntax.specs.Program as p
use Rattle.fk_syntax.specs.Program.{Statement, Statements, FunctionTree, ProgramTree}
use Rattle.fk_meaning_forms.specs.Tables.{Tables}
use Rattle.fk_meaning_forms.specs.Code.{numbered}
use Rattle.fk_meaning_forms.specs.Expressions.{Coded, Signature, value}
use Rattle.fk_meaning_forms.specs.Program.{functions_of, signature_in}
use Rattle.fk_core.specs.CodeAt.{is_first}

module _ (tables : Tables) (functions : (binding : ℕ) → Signature) where
  abbrev pub Begins : Tree → Type 0
  Begins e = (rest : Coded) (first : ℕ)
      → is_first (numbered first (value tables functions e rest)) ≡ true

  abbrev pub OptionBegins : Option Tree → Type 0
  OptionBegins None = Unit {0}
  OptionBegins (Some e) = Begins e

  abbrev mutual
    pub LoopsBegin : Statement → Type 0
    LoopsBegin (p.Block statements) = AllLoopsBegin statements
    LoopsBegin (p.If spot condition first) = LoopsBegin first
    LoopsBegin (p.IfElse spot condition first second) = LoopsBegin first × LoopsBegin second
    LoopsBegin (p.While spot condition body) = Begins condition × LoopsBegin body
    LoopsBegin (p.DoWhile spot body condition) = Begins condition × LoopsBegin body
    LoopsBegin (p.For spot before condition after body) = OptionBegins condition × LoopsBegin body
    LoopsBegin (p.Start spot count body) = LoopsBegin body
    LoopsBegin (p.Farm spot body) = LoopsBegin body
    LoopsBegin (p.Seq spot body) = LoopsBegin body
    LoopsBegin (p.Fork spot parts part rank body) = LoopsBegin body
    LoopsBegin other = Unit {0}

    pub AllLoopsBegin : Statements → Type 0
    AllLoopsBegin p.no_statements = Unit {0}
    AllLoopsBegin (p.statement first others) = LoopsBegin first × AllLoopsBegin others

  abbrev pub BodyBegins : Option Statements → Type 0
  BodyBegins None = Unit {0}
  BodyBegins (Some statements) = AllLoopsBegin statements

  abbrev pub FunctionsBegin : List FunctionTree → Type 0
  FunctionsBegin [] = Unit {0}
  FunctionsBegin (f ∷ fs) = BodyBegins f.body × FunctionsBegin fs

abbrev pub ConditionsBegin : Tables → ProgramTree → Type 0
ConditionsBegin tables program = let fs = functions_of program.items in
    FunctionsBegin tables (signature_in tables fs) fs
