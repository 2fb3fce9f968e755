-- What a program needs for its code to name private words that exist.
use Rattle.std.specs.Prelude.{◌≡◌, ℕ, ◌<◌, ◌≤◌, ◌==◌, false, List, [], ◌∷◌, ◌++◌, length}
use Rattle.std.specs.Prelude.{if◌then◌else◌}
use Rattle.fk_syntax.specs.Tree.{Named}
use Rattle.fk_syntax.specs.Program.{DeclaredTree, FunctionTree, ProgramTree}
use Rattle.fk_layout_sizes.specs.Places.{filling}
use Rattle.fk_types_names.specs.Outline.{MarkTree, Variable, Declares, Uses, variables_marks}
use Rattle.fk_types_names.specs.Outline.{body_marks}
use Rattle.fk_meaning_forms.specs.declared.tables.Home.{Home}
use Rattle.fk_meaning_forms.specs.declared.tables.Home.TheVariants as h
use Rattle.fk_meaning_forms.specs.Tables.{Tables, no_binding, note, slot}
use Rattle.fk_meaning_forms.specs.Program.{functions_of, binding_of, bodies_of}
use Rattle.fk_core_flat.specs.Fitting.{ProgramFits}
use Rattle.fk_lower_names.specs.WordRoom.{HasSmallFrames}
use Rattle.fk_lower_laws.specs.Rooms.{HasWords}

-- For this many private variables of file scope, and private words of a function.
module _ (tables : Tables) (firsts words : ℕ) where
  -- A private variable has its word.
  abbrev pub HasWord : Home → (index : ℕ) → Type 0
  HasWord h.Private i = i < words
  HasWord h.FilePrivate i = i < firsts
  HasWord home i = Unit {0}

  -- A name means a declaration of the text; and the private word of that declaration exists.
  abbrev pub IsBound : Named → Type 0
  IsBound name = ((note tables name.at).binding == no_binding) ≡ false

  abbrev pub HasItsWord : Named → Type 0
  HasItsWord name =
      let b = (note tables name.at).binding in HasWord (slot tables b).home (slot tables b).index

  -- What is declared has its word, and so has each used name that means a declaration.
  abbrev pub IsNamed : MarkTree → Type 0
  IsNamed (Uses name) = IsBound name → HasItsWord name
  IsNamed (Declares (Variable x)) = IsBound x.name × HasItsWord x.name
  IsNamed mark = Unit {0}

  abbrev pub AreNamed : List MarkTree → Type 0
  AreNamed [] = Unit {0}
  AreNamed (mark ∷ marks) = IsNamed mark × AreNamed marks

-- A call has room for 56 parameters. A function has a private word for each of its parameters, and
-- room for the values by which the `sh` ones are put into its group frame.
pub record HasParameters (words most : ℕ) (parameters : List DeclaredTree) : Type 0 where
  pub few : length parameters ≤ 56
  pub own : length parameters ≤ words
  pub values : filling parameters ≤ most

pub record FunctionNames (tables : Tables) (firsts words most : ℕ) (f : FunctionTree)
    : Type 0 where
  pub room : HasParameters words most f.parameters
  pub names : AreNamed tables firsts words (variables_marks f.parameters ++ body_marks f.body)

module _ (tables : Tables) (words most : FunctionTree → ℕ) (firsts : ℕ) where
  abbrev pub FunctionsName : List FunctionTree → Type 0
  FunctionsName [] = Unit {0}
  FunctionsName (f ∷ fs) = FunctionNames tables firsts (words f) (most f) f × FunctionsName fs

-- The number of private words or values of the function of a binding.
abbrev pub words_in : Tables → (words : FunctionTree → ℕ) → List FunctionTree → (binding : ℕ) → ℕ
words_in tables words [] b = 0
words_in tables words (f ∷ fs) b = if binding_of tables f == b then words f
    else words_in tables words fs b

-- A program whose names have their words has code that names private words that exist, and words of
-- group frames below 2^21.
abbrev pub CodeNamesWords : Type 0
CodeNamesWords =
    (tables : Tables) (program : ProgramTree) (words most : FunctionTree → ℕ) (firsts : ℕ)
    → ProgramFits tables program → HasSmallFrames tables
    → let fs = functions_of program.items in
    FunctionsName tables words most firsts fs
    → (binding : ℕ) → HasWords firsts (words_in tables words fs) (words_in tables most fs)
    (words_in tables words fs binding) (bodies_of tables program binding)
