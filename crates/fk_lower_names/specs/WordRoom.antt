-- What a program needs for each operation to have a number, and for each number that it takes to
-- have room in a word: conditions on its tables, and on its trees.
use Rattle.std.specs.Prelude.{ℕ, ◌<◌, ◌^◌, List, [], ◌∷◌, All, length, Option, Some, None}
use Rattle.fk_syntax.specs.declared.facts.Kind.{Kind}
use Rattle.fk_syntax.specs.declared.facts.Note.{Note}
use Rattle.fk_syntax.specs.Program as p
use Rattle.fk_syntax.specs.Program.{ItemTree}
use Rattle.fk_meaning_forms.specs.declared.tables.Region.{Region}
use Rattle.fk_meaning_forms.specs.declared.tables.Slot.{Slot}
use Rattle.fk_meaning_forms.specs.Tables.{Tables, note, slot, frame_at}
use Rattle.fk_core.specs.Numbers.{nestings}
use Rattle.fk_parse_laws.specs.Every.{Always, Parts, BodyHas}

-- A word has 4 bytes, and the first word of shared data is at 2^28.
abbrev pub most_words : ℕ
most_words = 2 ^ 29

pub record HasRoom (tables : Tables) : Type 0 where
  pub notes : All (λ (note : Note). note.binding < 2 ^ 32) tables.notes
  pub words : All (λ (kind : Kind). kind.words < most_words) tables.kinds
  pub steps : All (λ (kind : Kind). kind.step < 2 ^ 32) tables.kinds
  pub slots : All (λ (slot : Slot). slot.index < 2 ^ 21) tables.slots
  pub levels : All (λ (region : Region). region.level < nestings) tables.regions
  pub frames : All (λ (region : Region). region.words < 2 ^ 21) tables.regions

-- The words of group frames, and the places of declarations in them, are below 2^21.
abbrev pub IsSmall : Option Region → Type 0
IsSmall None = Unit {0}
IsSmall (Some region) = region.words < 2 ^ 21

pub record HasSmallFrames (tables : Tables) : Type 0 where
  pub places : (binding : ℕ) → (slot tables binding).index < 2 ^ 21
  pub frames : (at part : ℕ) → IsSmall (frame_at tables at part)

module _ (tables : Tables) where
  -- There are few words before members.
  abbrev pub near_members : Parts
  near_members = record {
    number = Always;
    text = Always;
    links = Always;
    suffixes = Always;
    member = λ member. (note tables member.at).binding < most_words;
    length = Always;
  }

  -- Members are near in the body of a function, and the function has not too many parameters.
  abbrev pub ItemIsNear : ItemTree → Type 0
  ItemIsNear (p.FunctionItem f) = (length f.parameters < 2 ^ 26) × BodyHas near_members f.body
  ItemIsNear item = Unit {0}

  abbrev pub ItemsAreNear : List ItemTree → Type 0
  ItemsAreNear [] = Unit {0}
  ItemsAreNear (x ∷ xs) = ItemIsNear x × ItemsAreNear xs
