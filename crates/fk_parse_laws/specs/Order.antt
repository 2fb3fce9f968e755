-- The order of the group frames of a text.
use Rattle.std.specs.Prelude.{◌≡◌, ℕ, ◌<◌, ◌⊎◌, List, [], ◌∷◌, ◌++◌, flat_map, AllPairs, Option}
use Rattle.std.specs.Prelude.{Some, None}
use Rattle.fk_syntax.specs.Program as p
use Rattle.fk_syntax.specs.Program.{Statement, Statements, ItemTree}
use Rattle.fk_meaning_forms.specs.declared.tables.Region.{Region}
use Rattle.fk_layout_slots.specs.Told.{Told}
use Rattle.fk_layout_slots.specs.Frames.{regions_of}

-- the tokens of a statement that may have frames, in the order of the text: the first keywords of
-- it and of its inner statements
abbrev mutual
  pub tokens_in : Statement → List ℕ
  tokens_in (p.Block list) = all_tokens_in list
  tokens_in (p.If spot condition first) = spot.at ∷ tokens_in first
  tokens_in (p.IfElse spot condition first second) = spot.at ∷ tokens_in first ++ tokens_in second
  tokens_in (p.While spot condition body) = spot.at ∷ tokens_in body
  tokens_in (p.DoWhile spot body condition) = spot.at ∷ tokens_in body
  tokens_in (p.For spot before condition after body) = spot.at ∷ tokens_in body
  tokens_in (p.Start spot count body) = spot.at ∷ tokens_in body
  tokens_in (p.Fork spot parts part rank body) = spot.at ∷ tokens_in body
  tokens_in (p.Farm spot body) = tokens_in body
  tokens_in (p.Seq spot body) = tokens_in body
  tokens_in statement = []

  pub all_tokens_in : Statements → List ℕ
  all_tokens_in p.no_statements = []
  all_tokens_in (p.statement first others) = tokens_in first ++ all_tokens_in others

abbrev pub body_tokens : Option Statements → List ℕ
body_tokens None = []
body_tokens (Some body) = all_tokens_in body

-- the tokens of an item: the name of a function, and those of its body
abbrev pub item_tokens : ItemTree → List ℕ
item_tokens (p.StructItem name members) = []
item_tokens (p.VariablesItem variables) = []
item_tokens (p.FunctionItem f) = f.name.at ∷ body_tokens f.body

-- the tokens of a text that may have frames
abbrev pub frame_tokens : List ItemTree → List ℕ
frame_tokens items = flat_map item_tokens items

-- the numbers ascend
abbrev pub Ascend : List ℕ → Type 0
Ascend = AllPairs (λ x y. x < y)

-- a frame comes before another one by its token, and at one token by its part
abbrev pub IsBefore : Region → Region → Type 0
IsBefore x y = (x.at < y.at) ⊎ ((x.at ≡ y.at) × (x.part < y.part))

abbrev pub AreInOrder : List Region → Type 0
AreInOrder = AllPairs IsBefore

-- if these tokens ascend, the frames of a text are in order
abbrev pub FramesInOrder : Type 0
FramesInOrder = (told : Told) (items : List ItemTree) → Ascend (frame_tokens items)
    → AreInOrder (regions_of told items)
