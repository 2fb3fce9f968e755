-- Programs whose numbers fit into words: values, characters, the lengths of arrays, and the bytes
-- of texts.
use Rattle.std.specs.Prelude.{ℕ, ◌<◌, ◌^◌, List, [], ◌∷◌, All, Option, Some, None}
use Rattle.fk_syntax.specs.Program as p
use Rattle.fk_syntax.specs.Program.{ItemTree, ProgramTree}
use Rattle.fk_lex.specs.Reading.{Spelled, Tokens}
use Rattle.fk_parse.specs.Parses.{SpellsProgram}
use Rattle.fk_parse_laws.specs.Every.{Always, Parts, VariablesHave, BodyHas}

abbrev pub IsWord : ℕ → Type 0
IsWord n = n < 2 ^ 32

abbrev pub LengthIsWord : Option ℕ → Type 0
LengthIsWord None = Unit {0}
LengthIsWord (Some length) = IsWord length

abbrev pub word_numbers : Parts
word_numbers = record {
  number = IsWord;
  text = λ bytes. All IsWord bytes;
  links = Always;
  suffixes = Always;
  member = Always;
  length = LengthIsWord;
}

abbrev pub ItemHasWords : ItemTree → Type 0
ItemHasWords (p.StructItem name members) = VariablesHave word_numbers members
ItemHasWords (p.VariablesItem variables) = VariablesHave word_numbers variables
ItemHasWords (p.FunctionItem f) = VariablesHave word_numbers f.parameters
    × BodyHas word_numbers f.body

abbrev pub ItemsHaveWords : List ItemTree → Type 0
ItemsHaveWords [] = Unit {0}
ItemsHaveWords (x ∷ xs) = ItemHasWords x × ItemsHaveWords xs

abbrev pub NumbersAreWords : ProgramTree → Type 0
NumbersAreWords program = ItemsHaveWords program.items

-- the program of a text has such numbers
abbrev pub TextsHaveWords : Type 0
TextsHaveWords =
    (source : List ℕ) (tokens : List Spelled) (program : ProgramTree)
    → Tokens source tokens → SpellsProgram tokens program → NumbersAreWords program
