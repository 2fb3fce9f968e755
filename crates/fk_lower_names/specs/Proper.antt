-- Programs whose structs have members, whose parameters have no lengths, where each token that may
-- have group frames stands behind the first one and those before it, and whose group frames are on
-- few levels.
use Rattle.std.specs.Prelude.{◌≡◌, ℕ, List, [], ◌∷◌, None}
use Rattle.fk_syntax.specs.Program.{DeclaredTree, ItemTree, StructItem, VariablesItem, FunctionItem}
use Rattle.fk_syntax.specs.Program.{ProgramTree}
use Rattle.fk_lex.specs.Reading.{Spelled, Tokens}
use Rattle.fk_parse.specs.Parses.{SpellsProgram}
use Rattle.fk_parse_laws.specs.Order.{frame_tokens, Ascend}
use Rattle.fk_parse_laws.specs.Levels.{FramesAreShallow}

abbrev pub HasMembers : List DeclaredTree → Type 0
HasMembers [] = ⊥
HasMembers (x ∷ xs) = Unit {0}

abbrev pub AreWithoutLengths : List DeclaredTree → Type 0
AreWithoutLengths [] = Unit {0}
AreWithoutLengths (x ∷ xs) = (x.length ≡ None) × AreWithoutLengths xs

abbrev pub ItemIsProper : ItemTree → Type 0
ItemIsProper (StructItem name members) = HasMembers members
ItemIsProper (VariablesItem variables) = Unit {0}
ItemIsProper (FunctionItem f) = AreWithoutLengths f.parameters

abbrev pub ItemsAreProper : List ItemTree → Type 0
ItemsAreProper [] = Unit {0}
ItemsAreProper (x ∷ xs) = ItemIsProper x × ItemsAreProper xs

abbrev pub ProgramIsProper : ProgramTree → Type 0
ProgramIsProper program =
    ItemsAreProper program.items × Ascend (0 ∷ frame_tokens program.items)
    × FramesAreShallow program.items

-- The program of a text is proper.
abbrev pub TextsAreProper : Type 0
TextsAreProper =
    (source : List ℕ) (tokens : List Spelled) (program : ProgramTree)
    → Tokens source tokens → SpellsProgram tokens program → ProgramIsProper program
