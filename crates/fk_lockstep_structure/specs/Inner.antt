-- A text in which no frame of a part is a function's own, and functions that processors call by
-- themselves have no frame.
use Rattle.std.specs.Prelude.{◌≡◌, ℕ, ◌==◌, Bool, false, true, List, [], ◌∷◌, Option, Some, None}
use Rattle.fk_syntax.specs.Program as p
use Rattle.fk_syntax.specs.Program.{Statement, Statements, FunctionTree, ProgramTree}
use Rattle.fk_meaning_forms.specs.declared.tables.Region.{Region}
use Rattle.fk_meaning_forms.specs.Tables.{Tables, frame_at}
use Rattle.fk_meaning_forms.specs.Program.{functions_of, binding_of, no_signature, bodies_of}
use Rattle.fk_meaning_forms.specs.Program.{main_of}
use Rattle.fk_lockstep_structure.specs.InPlace.{IsInPlace}
use Rattle.fk_lockstep_structure.specs.Framed.{AreFramed}

abbrev pub is_own : Option Region → Bool
is_own None = false
is_own (Some region) = region.level == 0

module _ (tables : Tables) where
  abbrev pub Inner : (at : ℕ) → Type 0
  Inner at = (part : ℕ) → is_own (frame_at tables at part) ≡ false

  abbrev mutual
    pub StatementInner : Statement → Type 0
    StatementInner (p.Block statements) = StatementsInner statements
    StatementInner (p.If spot condition first) = Inner spot.at × StatementInner first
    StatementInner (p.IfElse spot condition first second) = Inner spot.at × StatementInner first
        × StatementInner second
    StatementInner (p.While spot condition body) = Inner spot.at × StatementInner body
    StatementInner (p.DoWhile spot body condition) = Inner spot.at × StatementInner body
    StatementInner (p.For spot before condition after body) = Inner spot.at × StatementInner body
    StatementInner (p.Start spot count body) = Inner spot.at × StatementInner body
    StatementInner (p.Farm spot body) = StatementInner body
    StatementInner (p.Seq spot body) = StatementInner body
    StatementInner (p.Fork spot parts part rank body) = Inner spot.at × StatementInner body
    StatementInner statement = Unit {0}

    pub StatementsInner : Statements → Type 0
    StatementsInner p.no_statements = Unit {0}
    StatementsInner (p.statement first others) = StatementInner first × StatementsInner others

  abbrev pub BodyInner : Option Statements → Type 0
  BodyInner None = Unit {0}
  BodyInner (Some statements) = StatementsInner statements

  abbrev pub FunctionsInner : (may_call : (in_group : Bool) → (function : ℕ) → Bool)
      → List FunctionTree → Type 0
  FunctionsInner may_call [] = Unit {0}
  FunctionsInner may_call (f ∷ fs) =
      BodyInner f.body × (may_call false (binding_of tables f) ≡ true
      → frame_at tables f.name.at 0 ≡ None) × FunctionsInner may_call fs

-- programs of such a text keep the rules on frames
abbrev pub ProgramsAreFramed : Type 0
ProgramsAreFramed =
    (tables : Tables) (program : ProgramTree) (may_call : (in_group : Bool) → (function : ℕ) → Bool)
    → IsInPlace tables program may_call
    → FunctionsInner tables may_call (functions_of program.items)
    → frame_at tables no_signature.at 0 ≡ None
    → AreFramed may_call (bodies_of tables program) (main_of tables program)
