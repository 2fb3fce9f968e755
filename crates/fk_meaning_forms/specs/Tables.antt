-- The tables that give the names, types and places in memory of a program.
use Rattle.std.specs.Prelude.{ℕ, zero, suc, ◌-◌, ◌^◌, ◌==◌, ◌&&◌, ◌||◌, Bool, false, List, [], ◌∷◌}
use Rattle.std.specs.Prelude.{Option, Some, None, if◌then◌else◌}
use Rattle.fk_syntax.specs.declared.facts.Note.{Note}
use Rattle.fk_syntax.specs.declared.facts.Kind.{Kind}
use Rattle.fk_meaning_forms.specs.declared.tables.Home.TheVariants.{NoWord}
use Rattle.fk_meaning_forms.specs.declared.tables.Slot.{Slot}
use Rattle.fk_meaning_forms.specs.declared.tables.Region.{Region}

-- a note for each token; the types; a slot for each declaration; and the group frames that have
-- words
pub record Tables : Type 0 where
  pub notes : List Note
  pub kinds : List Kind
  pub slots : List Slot
  pub regions : List Region

-- the binding of a predeclared name, which has no declaration
abbrev pub no_binding : ℕ
no_binding = 2 ^ 32 - 1

abbrev pub nth : {X : Type 0} → (other : X) → List X → (n : ℕ) → X
nth other [] n = other
nth other (x ∷ xs) zero = x
nth other (x ∷ xs) (suc n) = nth other xs n

abbrev pub no_note : Note
no_note = record { kind = 0; binding = 0; sync = false; shared = false; splits = false }

abbrev pub no_kind : Kind
no_kind = record { words = 0; unsigned = false; array = false; step = 0 }

abbrev pub no_slot : Slot
no_slot = record { home = NoWord; index = 0 }

abbrev pub no_region : Region
no_region = record { at = 0; part = 0; level = 0; words = 0 }

module _ (tables : Tables) where
  -- the note of a token, and the type in it
  abbrev pub note : (at : ℕ) → Note
  note at = nth no_note tables.notes at

  abbrev pub kind_at : (at : ℕ) → Kind
  kind_at at = nth no_kind tables.kinds (note at).kind

  abbrev pub is_array : (at : ℕ) → Bool
  is_array at = (kind_at at).array

  abbrev pub is_void : (at : ℕ) → Bool
  is_void at = (kind_at at).words == 0

  -- an array counts as a pointer, and so compares as unsigned
  abbrev pub is_unsigned : (at : ℕ) → Bool
  is_unsigned at = (kind_at at).unsigned || (kind_at at).array

  abbrev pub slot : (binding : ℕ) → Slot
  slot binding = nth no_slot tables.slots binding

  abbrev pub region : (number : ℕ) → Region
  region number = nth no_region tables.regions number

  -- the group frame at a token, if it has words
  abbrev pub frame_in : List Region → (at part : ℕ) → Option Region
  frame_in [] at part = None
  frame_in (r ∷ rs) at part = if (r.at == at) && (r.part == part) then Some r
      else frame_in rs at part

  abbrev pub frame_at : (at part : ℕ) → Option Region
  frame_at at part = frame_in tables.regions at part
