-- The code of programs names words that are there.
use Rattle.std.proofs.Common.{ℕ, ◌+◌, Bool, true, false, List, [], ◌∷◌, ◌++◌, Option, Some, None, arith}
use Rattle.std.specs.Prelude.{◌==◌, is_some, if◌then◌else◌}
use Rattle.fk_syntax.specs.declared.program.Mode.{Mode}
use Rattle.fk_syntax.specs.Tree.{Named, TypeTree}
use Rattle.fk_syntax.specs.Program.{DeclaredTree, Statements, FunctionTree}
use Rattle.fk_types_names.specs.Outline.{MarkTree, variables_marks, body_marks, statements_marks}
use Rattle.fk_meaning_forms.specs.Code.{size, numbered}
use Rattle.fk_meaning_forms.specs.Tables.{Tables, frame_at}
use Rattle.fk_meaning_forms.specs.Expressions.{Signature}
use Rattle.fk_meaning_forms.specs.Statements.{Inside, is_nothing}
use Rattle.fk_meaning_forms.specs.Program.{functions_of, binding_of, signature_of, signature_in, is_main, code_of, body_in}
use Rattle.fk_check_laws.proofs.Each.{Each, rest_of}
use Rattle.fk_core_flat.specs.Fitting.{is_defined, BodyFits, FunctionsFit}
use Rattle.fk_lower_laws.specs.Rooms.{HasWords}
use Rattle.fk_lower_laws.proofs.NamedStatements.{body_fine}
use Rattle.fk_lower_names.specs.WordRoom.{HasSmallFrames}
use Rattle.fk_lower_laws.specs.Named.{IsNamed, AreNamed, HasParameters, FunctionNames, FunctionsName, words_in, CodeNamesWords}

-- the signature of a binding has few parameters, for which its function has room
room_in : (tables : Tables) (words most : FunctionTree → ℕ) (firsts : ℕ) (fs : List FunctionTree) → FunctionsName tables words most firsts fs → (b : ℕ)
    → HasParameters (words_in tables words fs b) (words_in tables most fs b) (signature_in tables fs b).parameters
room_in tables words most firsts [] names b = record { few = omega arith; own = omega arith; values = omega arith }
room_in tables words most firsts (f ∷ fs) names b = by (binding_of tables f == b) (room_in tables words most firsts fs names.1 b)
  where
    by : (is : Bool) → HasParameters (words_in tables words fs b) (words_in tables most fs b) (signature_in tables fs b).parameters
        → HasParameters (if is then words f else words_in tables words fs b) (if is then most f else words_in tables most fs b) (if is then signature_of f else signature_in tables fs b).parameters
    by true more = names.0.room
    by false more = more

each_named : (tables : Tables) (firsts words : ℕ) (marks : List MarkTree) → AreNamed tables firsts words marks → Each (IsNamed tables firsts words) marks
each_named tables firsts words [] h = tt
each_named tables firsts words (mark ∷ marks) h = (h.0, each_named tables firsts words marks h.1)

module _ (tables : Tables) (everyone : List FunctionTree) (has_body : (binding : ℕ) → Bool) (firsts : ℕ) (all most : ℕ → ℕ)
    (room : (b : ℕ) → HasParameters (all b) (most b) (signature_in tables everyone b).parameters) (small : HasSmallFrames tables) where
  abbrev functions : (binding : ℕ) → Signature
  functions = signature_in tables everyone

  function_by : (words : ℕ) (mode : Mode) (kind : TypeTree) (name : Named) (parameters : List DeclaredTree) (body : Option Statements)
      → BodyFits tables functions has_body body → AreNamed tables firsts words (variables_marks parameters ++ body_marks body)
      → let f : FunctionTree = record { mode = mode; result = kind; name = name; parameters = parameters; body = body } in
      (first : ℕ) → HasWords firsts all most words (numbered first (code_of tables everyone f))
  function_by words mode kind name parameters None fits names first = absurd fits
  function_by words mode kind name parameters (Some statements) fits names first =
      let f : FunctionTree = record { mode = mode; result = kind; name = name; parameters = parameters; body = Some statements } in
      let inside : Inside = record { main = is_main f; framed = is_some (frame_at tables name.at 0) } in
      let fine = body_fine tables functions has_body firsts all most words room small inside (is_nothing kind) statements fits
      (rest_of (IsNamed tables firsts words) (variables_marks parameters) (statements_marks statements) (each_named tables firsts words _ names)) in
      fine.names first

  function_names : (words own : ℕ) (f : FunctionTree) → BodyFits tables functions has_body f.body → FunctionNames tables firsts words own f
      → (first : ℕ) → HasWords firsts all most words (numbered first (code_of tables everyone f))
  function_names words own f fits names first = function_by words f.mode f.result f.name f.parameters f.body fits names.names first

  module _ (words values : FunctionTree → ℕ) where
    bodies : (fs : List FunctionTree) (first binding : ℕ) → FunctionsFit tables functions has_body fs → FunctionsName tables words values firsts fs
        → HasWords firsts all most (words_in tables words fs binding) (body_in tables everyone first fs binding)
    bodies [] first binding fits names = tt
    bodies (f ∷ fs) first binding fits names =
        by (binding_of tables f == binding) (bodies fs (first + size (code_of tables everyone f)) binding fits.1 names.1)
      where
        by : (is : Bool) → HasWords firsts all most (words_in tables words fs binding) (body_in tables everyone (first + size (code_of tables everyone f)) fs binding)
            → HasWords firsts all most (if is then words f else words_in tables words fs binding)
            (if is then numbered first (code_of tables everyone f) else body_in tables everyone (first + size (code_of tables everyone f)) fs binding)
        by true others = function_names (words f) (values f) f fits.0 names.0 first
        by false others = others

pub code_names_words : CodeNamesWords
code_names_words tables program words most firsts fits small names binding =
    let fs = functions_of program.items in
    bodies tables fs (is_defined tables fs) firsts (words_in tables words fs) (words_in tables most fs) (room_in tables words most firsts fs names) small words most fs 0 binding fits names
