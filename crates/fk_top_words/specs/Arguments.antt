-- The arguments of a command, as the words after its command word spell them.
use Rattle.std.specs.Prelude.{◌≡◌, ◌≢◌, ℕ, Bool, true, false, ◌==◌, List, [], ◌∷◌, ◌++◌, Option}
use Rattle.std.specs.Prelude.{Some, None, codes, filter, map}

abbrev pub Text : Type 0
Text = List ℕ

-- The kinds of arguments: the name of the file that a command reads, and the values of its options.
pub data Part : Type 0 where
  File : Part
  Harts : Part
  Cycles : Part
  Show : Part
  Image : Part

pub record Argument : Type 0 where
  pub part : Part
  pub value : Text

abbrev pub argument : Part → Text → Argument
argument part value = record { part = part; value = value }

-- The word that names an option.
abbrev pub option_word : Part → Option Text
option_word File = None
option_word Harts = Some (codes "--harts")
option_word Cycles = Some (codes "--cycles")
option_word Show = Some (codes "--show")
option_word Image = Some (codes "-o")

-- The word begins with `-`, and isn't `-` alone.
abbrev pub is_dashed : Text → Bool
is_dashed [] = false
is_dashed (byte ∷ []) = false
is_dashed (byte ∷ next ∷ rest) = byte == 45

-- The words spell these arguments, in their order.
pub data Spells : List Text → List Argument → Type 0 where
  Nothing : Spells [] []
  -- The name of a file.
  Plain : {words : List Text} {arguments : List Argument} (word : Text) → is_dashed word ≡ false
      → Spells words arguments → Spells (word ∷ words) (argument File word ∷ arguments)
  -- An option and its value as two words, such as `--harts 4` and `-o IMAGE`.
  Apart : {words : List Text} {arguments : List Argument} (part : Part) (option value : Text)
      → option_word part ≡ Some option
      → is_dashed value ≡ false
      → Spells words arguments → Spells (option ∷ value ∷ words) (argument part value ∷ arguments)
  -- An option and its value in one word, such as `--harts=4` and `-o=IMAGE`.
  Joined : {words : List Text} {arguments : List Argument} (part : Part) (option value word : Text)
      → option_word part ≡ Some option
      → word ≡ option ++ codes "=" ++ value
      → Spells words arguments → Spells (word ∷ words) (argument part value ∷ arguments)
  -- The option `-o` and its value in one word without `=`, such as `-oIMAGE`.
  Attached : {words : List Text} {arguments : List Argument} (first : ℕ)
      (rest word : Text) → first ≢ 61
      → word ≡ codes "-o" ++ first ∷ rest
      → Spells words arguments → Spells (word ∷ words) (argument Image (first ∷ rest) ∷ arguments)
  -- `--`, after which each word is the name of a file.
  Ended : (words : List Text) (word : Text) (arguments : List Argument) → word ≡ codes "--"
      → arguments ≡ map (argument File) words
      → Spells (word ∷ words) arguments

-- ---- the values of each kind of argument

abbrev pub is_part : Part → Part → Bool
is_part File File = true
is_part Harts Harts = true
is_part Cycles Cycles = true
is_part Show Show = true
is_part Image Image = true
is_part _ _ = false

abbrev pub values_of : Part → List Argument → List Text
values_of part arguments = map (λ a. a.value) (filter (λ a. is_part part a.part) arguments)

pub record Values : Type 0 where
  pub file : List Text
  pub harts : List Text
  pub cycles : List Text
  pub show : List Text
  pub image : List Text

abbrev pub all_values : List Argument → Values
all_values arguments = record {
  file = values_of File arguments;
  harts = values_of Harts arguments;
  cycles = values_of Cycles arguments;
  show = values_of Show arguments;
  image = values_of Image arguments;
}

-- The words spell exactly these values, in any order.
pub record Gives (words : List Text) (values : Values) : Type 0 where
  pub arguments : List Argument
  pub spelled : Spells words arguments
  pub values_are : all_values arguments ≡ values
