-- The fields of a line.
use Rattle.std.specs.Prelude.{◌≡◌, ℕ, ◌^◌, ◌<◌, List, ◌∷◌, ◌++◌, decimal}
use Rattle.fk_image.specs.Events.{event_number}
use Rattle.fk_trace.specs.declared.column.Column.{Column}
use Rattle.fk_trace.specs.declared.column.Column.TheVariants.{Counts, Of}
use Rattle.fk_trace.specs.Text.{Range}

-- what a field tells of a range
abbrev pub field_text : Column → Range → List ℕ
field_text Counts r = decimal r.first ++ (45 ∷ (decimal r.last ++ (42 ∷ decimal r.number)))
field_text (Of event) r = decimal r.first ++ (45 ∷ decimal r.last)

-- a field of an event doesn't write the number of the event
abbrev pub HasOwnNumber : Column → (number : ℕ) → Type 0
HasOwnNumber Counts number = Unit {0}
HasOwnNumber (Of event) number = number ≡ event_number event

pub record SpellsRange (column : Column) (r : Range) (field : List ℕ) : Type 0 where
  pub first : r.first < 2 ^ 32
  pub last : r.last < 2 ^ 32
  pub number : r.number < 2 ^ 32
  pub own : HasOwnNumber column r.number
  pub spells : field ≡ field_text column r
