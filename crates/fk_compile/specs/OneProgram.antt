-- Programs that keep all rules have one remaining program, and their groups one space.
use Rattle.std.specs.Prelude.{◌≡◌, ℕ, ◌≤◌, Bool, true, not, List, Some, None}
use Rattle.fk_syntax.specs.declared.facts.Facts.{Facts}
use Rattle.fk_syntax.specs.Tree.{Tree}
use Rattle.fk_syntax.specs.Program.{ProgramTree}
use Rattle.fk_types_structs.specs.declared.types.DataType.{DataType}
use Rattle.fk_types_operators.specs.declared.values.ExpressionType.{ExpressionType}
use Rattle.fk_types_judgments.specs.Term.{term_of}
use Rattle.fk_types_judgments.specs.Names.{Env}
use Rattle.fk_types_judgments.specs.Typing.{type_of}
use Rattle.fk_meaning.specs.Processor.{Setting}
use Rattle.fk_meaning.specs.Schedule.{Schedule, run, IsLawful}
use Rattle.fk_meaning_forms.specs.Tables.{Tables}
use Rattle.fk_meaning_forms.specs.Expressions.{Signature}
use Rattle.fk_meaning_forms.specs.Program.{functions_of, signature_in}
use Rattle.fk_meaning.specs.Program.{next_in, program_opening}
use Rattle.fk_core_liveness.specs.declared.places.FunctionKind.{FunctionKind}
use Rattle.fk_layout.specs.Layout.{tables_by}
use Rattle.fk_layout.specs.Refusal.{Fits}
use Rattle.fk_lex.specs.Reading.{Spelled, Tokens}
use Rattle.fk_parse.specs.Parses.{SpellsProgram}
use Rattle.fk_parse_laws.specs.Trim.{ProgramIsTrim}
use Rattle.fk_check_laws.specs.Correct.{IsCorrect}
use Rattle.fk_lockstep.specs.OneProgram.{KeepOneProgram}
use Rattle.fk_lockstep.specs.OneSpace.{KeepOneSpace}
use Rattle.fk_lockstep_structure.specs.Valued.{gives, gives_value, way, Evaluates}
use Rattle.fk_lockstep_structure.specs.Forks.{ForksAreValued}
use Rattle.fk_lockstep_frames.specs.Nests.{Nest}
use Rattle.fk_core_typing.specs.declared.constants.Constant.{Constant as Address}
use Rattle.fk_core_typing.specs.AddressValues.{is_address}
use Rattle.fk_lower_laws.specs.Ways as w
use Rattle.fk_lower_laws.specs.Asked.{IsCalled, Asked}
use Rattle.fk_lower_laws.specs.Typed.{IsNothing, Known}
use Rattle.fk_lower_names.specs.Proper.{ProgramIsProper}

-- A called function gives a value if it has a result.
abbrev pub GiveResults : (functions : (binding : ℕ) → Signature)
    → (place_of : (binding : ℕ) → FunctionKind) → Type 0
GiveResults functions place_of = (binding : ℕ) → IsCalled (place_of binding)
    → w.place_gives (place_of binding) ≡ gives_value functions binding

-- What well typed code asks of an expression suffices for it to leave one value or none.
abbrev pub AskedEvaluates : Type 0
AskedEvaluates =
    (tables : Tables) (functions : (binding : ℕ) → Signature)
    (place_of : (binding : ℕ) → FunctionKind) → GiveResults functions place_of
    → (nests : List Nest) (x : Tree) → Asked tables functions place_of nests x
    → Evaluates tables functions x
    × (gives (way tables functions x) ≡ w.gives (w.way tables place_of x))

-- An expression that has a type leaves one value, or none if its type is nothing.
abbrev pub TypedEvaluates : Type 0
TypedEvaluates =
    (nests : List Nest) (has_room : Address → DataType → Bool)
    → ((address : Address) (type : DataType) → has_room address type ≡ true
    → is_address true nests (Some address) ≡ true)
    → (env : Env) (tables : Tables) (functions : (binding : ℕ) → Signature)
    (place_of : (binding : ℕ) → FunctionKind) → GiveResults functions place_of
    → (x : Tree)
    → Known (λ address type. has_room address type ≡ true) env tables functions place_of nests x
    → (type : ExpressionType) → type_of env (term_of x) ≡ Some type
    → Evaluates tables functions x × (gives (way tables functions x) ≡ not (IsNothing type))

-- A program that keeps all rules, is as a text spells it, and has a layout.
pub record IsLaidOut (program : ProgramTree) (facts : Facts) : Type 0 where
  pub correct : IsCorrect program facts
  pub trim : ProgramIsTrim program
  pub proper : ProgramIsProper program
  pub fits : Fits (tables_by program facts) program.items

-- Each part of a `fork`, and each rank in it, gives one value.
abbrev pub ForksGiveValues : Type 0
ForksGiveValues =
    (program : ProgramTree) (facts : Facts) → IsLaidOut program facts
    → let tables = tables_by program facts in
    let fs = functions_of program.items in
    ForksAreValued tables (signature_in tables fs) fs

-- The members of a group have one remaining program.
abbrev pub HasOneProgram : (program : ProgramTree) (facts : Facts) → Type 0
HasOneProgram program facts =
    (setting : Setting) (schedule : Schedule) (words firsts input : List ℕ) (processors : ℕ)
    → 1 ≤ processors
    → let next = next_in (tables_by program facts) program in
    let first = program_opening (tables_by program facts) program words firsts input processors in
    IsLawful next setting schedule first
    → (run next setting schedule first).fault ≡ None
    → KeepOneProgram next processors (run next setting schedule first)

abbrev pub CorrectProgramsHaveOneProgram : Type 0
CorrectProgramsHaveOneProgram = (program : ProgramTree) (facts : Facts) → IsLaidOut program facts
    → HasOneProgram program facts

-- The program of a text has one remaining program for each group.
abbrev pub TextsHaveOneProgram : Type 0
TextsHaveOneProgram =
    (source : List ℕ) (tokens : List Spelled) (program : ProgramTree) (facts : Facts)
    → Tokens source tokens → SpellsProgram tokens program
    → IsCorrect program facts → Fits (tables_by program facts) program.items
    → HasOneProgram program facts

-- The members of a group have one space.
abbrev pub HasOneSpace : (program : ProgramTree) (facts : Facts) → Type 0
HasOneSpace program facts =
    (setting : Setting) (schedule : Schedule) (words firsts input : List ℕ) (processors : ℕ)
    → 1 ≤ processors
    → let next = next_in (tables_by program facts) program in
    let first = program_opening (tables_by program facts) program words firsts input processors in
    IsLawful next setting schedule first
    → (run next setting schedule first).fault ≡ None
    → KeepOneSpace (run next setting schedule first)

abbrev pub TextsHaveOneSpace : Type 0
TextsHaveOneSpace =
    (source : List ℕ) (tokens : List Spelled) (program : ProgramTree) (facts : Facts)
    → Tokens source tokens → SpellsProgram tokens program
    → IsCorrect program facts → Fits (tables_by program facts) program.items
    → HasOneSpace program facts
