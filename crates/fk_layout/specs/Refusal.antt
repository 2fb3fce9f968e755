-- Why a text has no layout.
use Rattle.std.specs.Prelude.{◌≡◌, ℕ, ◌<◌, ◌≤◌, ◌-◌, ◌^◌, min, length, List, Option, Some, None}
use Rattle.fk_num.specs.Limits.{most_data_words}
use Rattle.fk_syntax.specs.declared.place.Place.{Place}
use Rattle.fk_syntax.specs.Program.{ItemTree}
use Rattle.fk_meaning_forms.specs.Tables.{Tables}
use Rattle.fk_meaning_forms.specs.Program.{functions_of, sites_in}
use Rattle.fk_layout_globals.specs.declared.layout.GlobalsFault.{GlobalsFault}
use Rattle.fk_layout_globals.specs.declared.layout.GlobalsFault.TheVariants.{TooLarge}
use Rattle.fk_layout_globals.specs.declared.layout.GlobalsFault.TheVariants as g
use Rattle.fk_layout_globals.specs.Constants.{told}
use Rattle.fk_layout_globals.specs.Rows.{total}
use Rattle.fk_layout.specs.Frames.{first_large}
use Rattle.fk_layout.specs.declared.sites.LayoutFault.{LayoutFault}
use Rattle.fk_layout.specs.declared.sites.LayoutFault.TheVariants.{TooManySites, FrameTooLarge}
use Rattle.fk_layout.specs.declared.sites.LayoutFault.TheVariants.{GlobalsTooLarge, Memory}

module _ (tables : Tables) (items : List ItemTree) where
  -- the number of operations of a text, and the number of words of its shared variables of file
  -- scope
  abbrev pub count_of_sites : ℕ
  count_of_sites = length (sites_in tables (functions_of items) (functions_of items))

  abbrev pub count_of_words : ℕ
  count_of_words = total (told tables.notes tables.kinds) items

  -- there are too many operations; or there isn't enough memory, which no clause can say
  abbrev pub HasTooMany : LayoutFault → Type 0
  HasTooMany (TooManySites n) = (16000 < count_of_sites) × (n ≡ min count_of_sites (2 ^ 64 - 1))
  HasTooMany Memory = Unit {0}
  HasTooMany fault = ⊥

  -- what is too much, in this order: the operations, the words of the first large frame, the words
  -- of the shared variables; or there isn't enough memory
  abbrev pub IsRefusal : LayoutFault → Type 0
  IsRefusal (TooManySites n) = (16000 < count_of_sites) × (n ≡ min count_of_sites (2 ^ 64 - 1))
  IsRefusal (FrameTooLarge place words) = (count_of_sites ≤ 16000)
      × (first_large tables items ≡ Some (place, words))
  IsRefusal (GlobalsTooLarge n) = (count_of_sites ≤ 16000) × (first_large tables items ≡ None)
      × (most_data_words < count_of_words) × (n ≡ min count_of_words (2 ^ 64 - 1))
  IsRefusal Memory = Unit {0}

  -- a text has a layout: none of these is too much
  pub record Fits : Type 0 where
    pub sites : count_of_sites ≤ 16000
    pub frames : first_large tables items ≡ None
    pub words : count_of_words ≤ most_data_words

-- the fault of a layout by why the variables of file scope are refused
abbrev pub of_globals : GlobalsFault → LayoutFault
of_globals (TooLarge words) = GlobalsTooLarge words
of_globals g.Memory = Memory

-- a fault reports the first large frame, if there is one; or there isn't enough memory
abbrev pub TellsLarge : Option (Place × ℕ) → LayoutFault → Type 0
TellsLarge first (FrameTooLarge place words) = first ≡ Some (place, words)
TellsLarge first Memory = Unit {0}
TellsLarge first fault = ⊥
