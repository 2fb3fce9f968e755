-- The rules by which the functions of a program go through its groups, parts and bodies in their
-- order. Where processors run by themselves, nothing splits, and no group begins except by `start`
-- on the outermost level of `main`. The expressions of a `fork` after its number of parts give one
-- value each. A function returns values if it has a result.
use Rattle.std.specs.Prelude.{◌≡◌, ℕ, ◌≤◌, ◌==◌, Bool, true, false, List, [], ◌∷◌, Option, Some}
use Rattle.std.specs.Prelude.{None}
use Rattle.fk_syntax.specs.Tree.{Named, Tree}
use Rattle.fk_syntax.specs.Program as p
use Rattle.fk_syntax.specs.Program.{DeclaredTree, Statement, Statements, FunctionTree, ProgramTree}
use Rattle.fk_meaning_forms.specs.Tables.{Tables, note}
use Rattle.fk_meaning_forms.specs.Program.{functions_of, binding_of, signature_in, is_main, main_of}
use Rattle.fk_meaning.specs.Processor.{Setting}
use Rattle.fk_meaning.specs.Schedule.{Schedule, run, ArePossible}
use Rattle.fk_meaning.specs.Program.{next_in, main_work, program_opening}
use Rattle.fk_meaning.specs.Shaped.{ProgramShaped}
use Rattle.fk_lockstep.specs.Told as told
use Rattle.fk_lockstep.specs.Allots.{Allots}
use Rattle.fk_lockstep.specs.Noted.{StatementNoted, FunctionsNoted}
use Rattle.fk_lockstep.specs.Course.{ByItself, Follows}
use Rattle.fk_lockstep.specs.OneProgram.{KeepOneProgram}
use Rattle.fk_lockstep_structure.specs.Placed.{Who, OfGroup, OfBody, OfMain, is_group, is_outermost}
use Rattle.fk_lockstep_structure.specs.Placed.{inner}
use Rattle.fk_lockstep_structure.specs.Placed as g
use Rattle.fk_lockstep_structure.specs.Forks.{ForksAreValued}
use Rattle.fk_lockstep_structure.specs.Returns.{FunctionsReturn}
use Rattle.fk_lockstep_structure.specs.Ahead.{all_outs}

-- functions that processors call by themselves have no `sh` parameters
abbrev pub NoneShared : List DeclaredTree → Type 0
NoneShared [] = Unit {0}
NoneShared (x ∷ xs) = (x.shared ≡ false) × NoneShared xs

module _ (tables : Tables) (may_call : (in_group : Bool) → (function : ℕ) → Bool) where
  module _ (in_group : Bool) where
    -- only a group splits or agrees. No name denotes a function that may not be called there, and
    -- only a group calls `shalloc`
    abbrev pub Splits : (at : ℕ) → Type 0
    Splits at = ((note tables at).splits ≡ true → in_group ≡ true)
        × ((note tables at).sync ≡ true → in_group ≡ true)

    abbrev pub Calls : Named → Type 0
    Calls name = (may_call in_group (note tables name.at).binding ≡ true)
        × (Allots tables name → in_group ≡ true)

    abbrev pub InPlace : Tree → Type 0
    InPlace e = told.Told Splits Calls e

    abbrev pub OptionInPlace : Option Tree → Type 0
    OptionInPlace e = told.OptionTold Splits Calls e

    abbrev pub VariablesInPlace : List DeclaredTree → Type 0
    VariablesInPlace variables = told.VariablesTold Splits Calls variables

  -- statements of `main` or of another function. A `return` may only end the code of the function
  -- itself
  abbrev mutual
    pub StatementInPlace : (main : Bool) → Who → Statement → Type 0
    StatementInPlace main who p.Empty = Unit {0}
    StatementInPlace main who (p.Expression e) = InPlace (is_group who) e
    StatementInPlace main who (p.Block statements) = StatementsInPlace main who statements
    StatementInPlace main who (p.Declare variables) = VariablesInPlace (is_group who) variables
    StatementInPlace main who (p.If spot condition first) =
        Splits (is_group who) spot.at × InPlace (is_group who) condition
        × StatementInPlace main (inner who) first
    StatementInPlace main who (p.IfElse spot condition first second) =
        Splits (is_group who) spot.at × InPlace (is_group who) condition
        × StatementInPlace main (inner who) first × StatementInPlace main (inner who) second
    StatementInPlace main who (p.While spot condition body) =
        Splits (is_group who) spot.at × InPlace (is_group who) condition
        × StatementInPlace main (inner who) body
    StatementInPlace main who (p.DoWhile spot body condition) =
        Splits (is_group who) spot.at × InPlace (is_group who) condition
        × StatementInPlace main (inner who) body
    StatementInPlace main who (p.For spot before condition after body) =
        Splits (is_group who) spot.at × OptionInPlace (is_group who) before
        × OptionInPlace (is_group who) condition
        × OptionInPlace (is_group who) after × StatementInPlace main (inner who) body
    StatementInPlace main who (p.Start spot count body) =
        (is_outermost who ≡ true) × OptionInPlace (is_group who) count
        × StatementInPlace main OfGroup body
        × StatementNoted tables (may_call true) body
    StatementInPlace main who (p.Farm spot body) = (is_group who ≡ true)
        × StatementInPlace main OfBody body
    StatementInPlace main who (p.Seq spot body) = (is_group who ≡ true)
        × StatementInPlace main OfBody body
    StatementInPlace main who (p.Fork spot parts part rank body) =
        (is_group who ≡ true) × InPlace (is_group who) parts × InPlace (is_group who) part
        × OptionInPlace (is_group who) rank
        × StatementInPlace main OfGroup body
    StatementInPlace main who (p.Barrier spot) = is_group who ≡ false
    StatementInPlace main who (p.Break spot) = Unit {0}
    StatementInPlace main who (p.Continue spot) = Unit {0}
    StatementInPlace main who (p.Return spot e) = (g.is_main who ≡ main)
        × OptionInPlace (is_group who) e

    pub StatementsInPlace : (main : Bool) → Who → Statements → Type 0
    StatementsInPlace main who p.no_statements = Unit {0}
    StatementsInPlace main who (p.statement first others) = StatementInPlace main who first
        × StatementsInPlace main who others

  abbrev pub BodyInPlace : (main : Bool) → Who → Option Statements → Type 0
  BodyInPlace main who None = Unit {0}
  BodyInPlace main who (Some statements) = StatementsInPlace main who statements

  -- the functions that may be called, none of which is `main`; and `main`
  abbrev pub FunctionsInPlace : (main : ℕ) → List FunctionTree → Type 0
  FunctionsInPlace main [] = Unit {0}
  FunctionsInPlace main (f ∷ fs) =
      (may_call true (binding_of tables f) ≡ true
      → (is_main f ≡ false) × BodyInPlace false OfGroup f.body)
      × (may_call false (binding_of tables f) ≡ true
      → (is_main f ≡ false) × BodyInPlace false OfBody f.body × NoneShared f.parameters)
      × ((binding_of tables f == main) ≡ true
      → (is_main f ≡ true) × BodyInPlace true (OfMain true) f.body)
      × FunctionsInPlace main fs

-- a text keeps all of these rules
pub record IsInPlace (tables : Tables) (program : ProgramTree)
    (may_call : (in_group : Bool) → (function : ℕ) → Bool) : Type 0 where
  pub shaped : ProgramShaped tables program
  pub noted : FunctionsNoted tables (may_call true) (functions_of program.items)
  pub in_place : FunctionsInPlace tables may_call (main_of tables program)
      (functions_of program.items)
  pub valued : ForksAreValued tables (signature_in tables (functions_of program.items))
      (functions_of program.items)
  pub returning : FunctionsReturn (functions_of program.items)

-- such programs lead each processor through their groups, parts and bodies in their order
abbrev pub ProgramsFollow : Type 0
ProgramsFollow =
    (tables : Tables) (program : ProgramTree) (may_call : (in_group : Bool) → (function : ℕ) → Bool)
    → IsInPlace tables program may_call
    → Follows (next_in tables program) all_outs (ByItself false) (main_work tables program)

-- after schedules of possible rounds the groups of such programs have one remaining program
abbrev pub ProgramsHaveOneProgram : Type 0
ProgramsHaveOneProgram =
    (tables : Tables) (program : ProgramTree) (may_call : (in_group : Bool) → (function : ℕ) → Bool)
    → IsInPlace tables program may_call
    → (setting : Setting) (schedule : Schedule) (words firsts input : List ℕ) (processors : ℕ)
    → 1 ≤ processors
    → let first = program_opening tables program words firsts input processors in
    ArePossible (next_in tables program) setting schedule first
    → (run (next_in tables program) setting schedule first).fault ≡ None
    → KeepOneProgram (next_in tables program) processors
    (run (next_in tables program) setting schedule first)
