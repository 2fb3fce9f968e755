-- Programs that keep all rules have one remaining program, and their groups one space.
use Rattle.std.proofs.Common.{◌≡◌, ℕ, Bool, true, false, List, [], ◌∷◌, Option, Some, None, refl, ◌∙◌}
use Rattle.std.specs.Prelude.{◌==◌, not, if◌then◌else◌}
use Rattle.fk_syntax.specs.declared.facts.Facts.{Facts}
use Rattle.fk_syntax.specs.Tree.{Tree}
use Rattle.fk_syntax.specs.Program as p
use Rattle.fk_syntax.specs.Program.{Statement, Statements, FunctionTree, ProgramTree}
use Rattle.fk_lex.specs.Reading.{Spelled, Tokens}
use Rattle.fk_parse.specs.Parses.{SpellsProgram}
use Rattle.fk_meaning_forms.specs.declared.tables.Region.{Region}
use Rattle.fk_meaning_forms.specs.Tables.{Tables}
use Rattle.fk_meaning_forms.specs.Expressions.{Signature}
use Rattle.fk_meaning_forms.specs.Statements.{is_nothing}
use Rattle.fk_meaning_forms.specs.Program.{functions_of, binding_of, signature_of, signature_in, is_main}
use Rattle.fk_core_liveness.specs.declared.places.FunctionKind.{FunctionKind}
use Rattle.fk_core_liveness.specs.declared.places.FunctionKind.TheVariants.{Main, Called}
use Rattle.fk_layout.specs.Layout.{tables_by}
use Rattle.fk_layout.specs.Refusal.{Fits}
use Rattle.fk_check_laws.specs.Correct.{IsCorrect}
use Rattle.fk_lockstep_structure.specs.Valued.{IsValued, OptionValued}
use Rattle.fk_lockstep_structure.specs.Forks.{StatementValued, StatementsValued, BodyValued, ForksAreValued}
use Rattle.fk_check_laws.specs.Valid.{IsValid}
use Rattle.fk_check_laws.proofs.PlacedPrograms.{valid_programs_have_one_program}
use Rattle.fk_check_laws.proofs.Spaces.{valid_programs_have_one_space}
use Rattle.fk_lower_laws.specs.Asked.{ValueAsked, OptionValueAsked, StatementAsked, StatementsAsked, BodyAsked, FunctionsAsked, IsCalled, ProgramAsked, place_in, place_of, place_by}
use Rattle.fk_lockstep_frames.specs.Nests.{Nest}
use Rattle.fk_lower_laws.specs.Ways.{place_gives}
use Rattle.fk_parse_laws.specs.Trim.{TextsAreTrim}
use Rattle.fk_lower_names.specs.Proper.{TextsAreProper}
use Rattle.fk_lower_laws.proofs.Programs.{correct_programs_are_asked}
use Rattle.fk_compile.specs.OneProgram.{GiveResults, IsLaidOut, ForksGiveValues, CorrectProgramsHaveOneProgram, TextsHaveOneProgram, TextsHaveOneSpace}
use Rattle.fk_compile.proofs.Evaluating.{evaluates_as}

module _ (tables : Tables) (functions : (binding : ℕ) → Signature) (places : (binding : ℕ) → FunctionKind) (results : GiveResults functions places) where
  values : (nests : List Nest) (e : Tree) → ValueAsked tables functions places nests e → IsValued tables functions e
  values nests e h = let s = evaluates_as tables functions places results nests e h.0 in (s.0, s.1 ∙ h.1)

  option_values : (nests : List Nest) (e : Option Tree) → OptionValueAsked tables functions places nests e → OptionValued tables functions e
  option_values nests None h = tt
  option_values nests (Some e) h = values nests e h

  module _ (place : FunctionKind) where
    mutual
      statement : (nests : List Nest) (s : Statement) → StatementAsked tables functions places place nests s → StatementValued tables functions s
      statement nests (p.Block body) h = statements nests body h
      statement nests (p.If spot condition first) h = statement _ first h.1
      statement nests (p.IfElse spot condition first second) h = (statement _ first h.1, statement _ second h.2)
      statement nests (p.While spot condition body) h = statement _ body h.1
      statement nests (p.DoWhile spot body condition) h = statement _ body h.1
      statement nests (p.For spot before condition after body) h = statement _ body h.3
      statement nests (p.Start spot count body) h = statement _ body h.1
      statement nests (p.Farm spot body) h = statement _ body h
      statement nests (p.Seq spot body) h = statement _ body h
      statement nests (p.Fork spot parts part rank body) h = (values nests part h.1, option_values nests rank h.2, statement _ body h.3)
      statement nests s h = tt

      statements : (nests : List Nest) (s : Statements) → StatementsAsked tables functions places place nests s → StatementsValued tables functions s
      statements nests p.no_statements h = tt
      statements nests (p.statement first others) h = (statement nests first h.0, statements nests others h.1)

    body_is : (region : Option Region) (body : Option Statements) → BodyAsked tables functions places place region body → BodyValued tables functions body
    body_is region None h = tt
    body_is region (Some body) h = statements _ body h.0

  all_functions : (fs : List FunctionTree) → FunctionsAsked tables functions places fs → ForksAreValued tables functions fs
  all_functions [] h = tt
  all_functions (f ∷ fs) h = (body_is (place_by f) _ f.body h.0, all_functions fs h.2)

-- the place of a binding tells whether its function has a result, as its signature does
gives_here : (f : FunctionTree) → IsCalled (place_by f) → place_gives (place_by f) ≡ not (is_nothing f.result)
gives_here f called = by (is_main f) called
  where
    by : (main : Bool) → IsCalled (if main then Main else Called (not (is_nothing f.result))) → place_gives (if main then Main else Called (not (is_nothing f.result))) ≡ not (is_nothing f.result)
    by true c = absurd c
    by false c = refl

gives_in : (tables : Tables) (fs : List FunctionTree) → GiveResults (signature_in tables fs) (place_in tables fs)
gives_in tables [] b called = refl
gives_in tables (f ∷ fs) b called = by (binding_of tables f == b) (gives_in tables fs b) called
  where
    by : (is : Bool) → (IsCalled (place_in tables fs b) → place_gives (place_in tables fs b) ≡ not (signature_in tables fs b).void)
        → IsCalled (if is then place_by f else place_in tables fs b)
        → place_gives (if is then place_by f else place_in tables fs b) ≡ not (if is then signature_of f else signature_in tables fs b).void
    by true others c = gives_here f c
    by false others c = others c

pub asked : (program : ProgramTree) (facts : Facts) → IsLaidOut program facts → ProgramAsked (tables_by program facts) program
asked program facts laid = correct_programs_are_asked program facts laid.correct laid.trim laid.proper laid.fits

pub forks_give_values : ForksGiveValues
forks_give_values program facts laid =
    let tables = tables_by program facts in
    let fs = functions_of program.items in
    all_functions tables (signature_in tables fs) (place_of tables program) (gives_in tables fs) fs (asked program facts laid).1

pub valid : (program : ProgramTree) (facts : Facts) → IsLaidOut program facts → IsValid program facts
valid program facts laid = record {
  well_formed = laid.correct.well_formed;
  small = laid.correct.small;
  known = laid.correct.known;
  valued = forks_give_values program facts laid;
}

pub correct_programs_have_one_program : CorrectProgramsHaveOneProgram
correct_programs_have_one_program program facts laid setting schedule words firsts input processors some lawful fine =
    valid_programs_have_one_program program facts (valid program facts laid) setting schedule words firsts input processors some lawful.possible fine

module _ (trim : TextsAreTrim) (proper : TextsAreProper) where
  pub laid_out : (source : List ℕ) (tokens : List Spelled) (program : ProgramTree) (facts : Facts) → Tokens source tokens → SpellsProgram tokens program
      → IsCorrect program facts → Fits (tables_by program facts) program.items → IsLaidOut program facts
  laid_out source tokens program facts spelled spells correct fits = record {
    correct = correct;
    trim = trim source tokens program spelled spells;
    proper = proper source tokens program spelled spells;
    fits = fits;
  }

  pub texts_have_one_program : TextsHaveOneProgram
  texts_have_one_program source tokens program facts spelled spells correct fits =
      correct_programs_have_one_program program facts (laid_out source tokens program facts spelled spells correct fits)

  pub texts_have_one_space : TextsHaveOneSpace
  texts_have_one_space source tokens program facts spelled spells correct fits setting schedule words firsts input processors some lawful fine =
      let laid = laid_out source tokens program facts spelled spells correct fits in
      valid_programs_have_one_space program facts (valid program facts laid) (asked program facts laid).0 setting schedule words firsts input processors some lawful.possible fine
