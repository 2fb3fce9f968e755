-- Programs without empty chains and empty lists of suffixes, whose parameters have no initial
-- values.
use Rattle.std.specs.Prelude.{◌≡◌, ℕ, List, [], ◌∷◌, None}
use Rattle.fk_syntax.specs.Tree as t
use Rattle.fk_syntax.specs.Tree.{Links, Suffixes}
use Rattle.fk_syntax.specs.Program as p
use Rattle.fk_syntax.specs.Program.{DeclaredTree, ItemTree, ProgramTree}
use Rattle.fk_lex.specs.Reading.{Spelled, Tokens}
use Rattle.fk_parse.specs.Parses.{SpellsProgram}
use Rattle.fk_parse_laws.specs.Every.{Always, Parts, VariablesHave, BodyHas}

abbrev pub HasLinks : Links → Type 0
HasLinks t.no_links = ⊥
HasLinks (t.link spot sign right others) = Unit {0}

abbrev pub HasSuffixes : Suffixes → Type 0
HasSuffixes t.no_suffixes = ⊥
HasSuffixes others = Unit {0}

-- a chain has a sign, and an expression with suffixes has at least one
abbrev pub nonempty_lists : Parts
nonempty_lists = record {
  number = Always;
  text = Always;
  links = HasLinks;
  suffixes = HasSuffixes;
  member = Always;
  length = Always;
}

-- parameters have no initial values
abbrev pub ParametersAreTrim : List DeclaredTree → Type 0
ParametersAreTrim [] = Unit {0}
ParametersAreTrim (x ∷ xs) = (x.first ≡ None) × ParametersAreTrim xs

abbrev pub ItemIsTrim : ItemTree → Type 0
ItemIsTrim (p.StructItem name members) = Unit {0}
ItemIsTrim (p.VariablesItem variables) = VariablesHave nonempty_lists variables
ItemIsTrim (p.FunctionItem f) = ParametersAreTrim f.parameters × BodyHas nonempty_lists f.body

abbrev pub ItemsAreTrim : List ItemTree → Type 0
ItemsAreTrim [] = Unit {0}
ItemsAreTrim (x ∷ xs) = ItemIsTrim x × ItemsAreTrim xs

abbrev pub ProgramIsTrim : ProgramTree → Type 0
ProgramIsTrim program = ItemsAreTrim program.items

-- the program of a text is trim
abbrev pub TextsAreTrim : Type 0
TextsAreTrim =
    (source : List ℕ) (tokens : List Spelled) (program : ProgramTree)
    → Tokens source tokens → SpellsProgram tokens program → ProgramIsTrim program
