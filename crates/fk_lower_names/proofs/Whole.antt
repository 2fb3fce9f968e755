-- The operations of functions have numbers, and take only numbers that have room in a word.
use Rattle.std.proofs.Common.{ℕ, ◌^◌, ◌<◌, List, [], ◌∷◌, Option, Some, None, length, arith}
use Rattle.std.specs.Prelude.{◌==◌, is_some}
use Rattle.fk_syntax.specs.declared.program.Mode.{Mode}
use Rattle.fk_syntax.specs.Tree.{TypeTree, Named}
use Rattle.fk_syntax.specs.Program.{DeclaredTree, Statements, FunctionTree, ItemTree, StructItem, VariablesItem, FunctionItem}
use Rattle.fk_meaning_forms.specs.Tables.{Tables, frame_at}
use Rattle.fk_meaning_forms.specs.Expressions.{Signature}
use Rattle.fk_meaning_forms.specs.Statements.{Inside, is_nothing}
use Rattle.fk_meaning_forms.specs.Program.{functions_of, with_body, binding_of, signature_of, signature_in, is_main, code_of}
use Rattle.fk_layout_walk.specs.declared.known.ProgramTables.{ProgramTables}
use Rattle.fk_layout_walk.specs.Known.{tables_of, items_in}
use Rattle.fk_layout_walk_statements.specs.Texts.{functions_in}
use Rattle.fk_parse_laws.specs.Every.{BodyHas}
use Rattle.fk_parse_laws.specs.Words.{ItemsHaveWords, word_numbers}
use Rattle.fk_lower_names.specs.WordRoom.{HasRoom, ItemsAreNear, near_members}
use Rattle.fk_lower_names.proofs.Fine.{AllFit, AreFit}
use Rattle.fk_lower_names.proofs.InExpressions.{either}
use Rattle.fk_lower_names.proofs.InStatements.{body_fit}

-- ---- no function has too many parameters

abbrev IsShort : Signature → Type 0
IsShort signature = length signature.parameters < 2 ^ 26

module _ (tables : Tables) where
  abbrev AreShort : List FunctionTree → Type 0
  AreShort fs = (binding : ℕ) → IsShort (signature_in tables fs binding)

  with_one : (f : FunctionTree) → IsShort (signature_of f) → (fs : List FunctionTree) → AreShort fs → AreShort (f ∷ fs)
  with_one f h fs k binding = either IsShort (binding_of tables f == binding) (signature_of f) (signature_in tables fs binding) h (k binding)

  few : (items : List ItemTree) → ItemsAreNear tables items → AreShort (functions_of items)
  few [] h binding = omega arith
  few (StructItem name members ∷ items) h binding = few items h.1 binding
  few (VariablesItem variables ∷ items) h binding = few items h.1 binding
  few (FunctionItem f ∷ items) h binding = by f.body (λ b. few items h.1 b) binding
    where
      by : (body : Option Statements) → AreShort (functions_of items) → AreShort (with_body f body (functions_of items))
      by None others = others
      by (Some _) others = with_one f h.0.0 (functions_of items) others

-- ---- the functions

module _ (known : ProgramTables) (room : HasRoom (tables_of known)) (short : AreShort (tables_of known) (functions_in known)) where
  -- a function, by its parts
  function_by : (mode : Mode) (result : TypeTree) (name : Named) (parameters : List DeclaredTree) (body : Option Statements)
      → BodyHas word_numbers body → BodyHas (near_members (tables_of known)) body
      → AllFit (code_of (tables_of known) (functions_in known) (record { mode = mode; result = result; name = name; parameters = parameters; body = body }))
  function_by mode result name parameters None i j = tt
  function_by mode result name parameters (Some statements) i j =
      let f : FunctionTree = record { mode = mode; result = result; name = name; parameters = parameters; body = Some statements } in
      let inside : Inside = record { main = is_main f; framed = is_some (frame_at (tables_of known) name.at 0) } in
      body_fit (tables_of known) (signature_in (tables_of known) (functions_in known)) room short inside (is_nothing result) statements i j

  function_fit : (f : FunctionTree) → BodyHas word_numbers f.body → BodyHas (near_members (tables_of known)) f.body → AllFit (code_of (tables_of known) (functions_in known) f)
  function_fit f i j = function_by f.mode f.result f.name f.parameters f.body i j

  functions_fit : (items : List ItemTree) → ItemsAreNear (tables_of known) items → ItemsHaveWords items → AreFit known (functions_of items)
  functions_fit [] j i = tt
  functions_fit (StructItem name members ∷ items) j i = functions_fit items j.1 i.1
  functions_fit (VariablesItem variables ∷ items) j i = functions_fit items j.1 i.1
  functions_fit (FunctionItem f ∷ items) j i = by f.body (functions_fit items j.1 i.1)
    where
      by : (body : Option Statements) → AreFit known (functions_of items) → AreFit known (with_body f body (functions_of items))
      by None others = others
      by (Some _) others = (function_fit f i.0.1 j.0.1, others)

pub all_fit : (known : ProgramTables) → HasRoom (tables_of known) → ItemsAreNear (tables_of known) (items_in known) → ItemsHaveWords (items_in known) → AreFit known (functions_in known)
all_fit known room near words = functions_fit known room (few (tables_of known) (items_in known) near) (items_in known) near words
