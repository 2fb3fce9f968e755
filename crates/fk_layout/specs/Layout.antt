-- The layout of a program.
use Rattle.std.specs.Prelude.{◌≡◌, ◌≤◌, List, map, None}
use Rattle.fk_num.specs.Limits.{most_data_words}
use Rattle.fk_syntax.specs.declared.facts.Facts.{Facts}
use Rattle.fk_syntax.specs.Program.{ItemTree, ProgramTree}
use Rattle.fk_meaning_forms.specs.Tables.{Tables}
use Rattle.fk_meaning_forms.specs.Program.{functions_of, sites_in, sites_of}
use Rattle.fk_layout_slots.specs.declared.tables.Slots.{Slots}
use Rattle.fk_layout_slots.specs.Told.{Told}
use Rattle.fk_layout_slots.specs.Frames.{regions_of}
use Rattle.fk_layout_slots.specs.Slots.{slots_of, owns_of}
use Rattle.fk_layout_globals.specs.declared.layout.Globals.{Globals}
use Rattle.fk_layout_globals.specs.Constants.{told}
use Rattle.fk_layout_globals.specs.Rows as g
use Rattle.fk_layout_globals.specs.View.{row_of}
use Rattle.fk_layout.specs.Listing.{site}
use Rattle.fk_layout.specs.Frames.{frame_sizes, first_large}
use Rattle.fk_layout.specs.Refusal.{count_of_sites}
use Rattle.fk_layout.specs.declared.layout.Layout.{Layout}
use Rattle.fk_layout.specs.declared.layout.Sizes.{Sizes}

abbrev pub told_by : Facts → Told
told_by facts = record { notes = facts.notes.items; kinds = facts.kinds.items }

-- the tables that the definitions of code need of a program
abbrev pub tables_by : ProgramTree → Facts → Tables
tables_by program facts = record {
  notes = facts.notes.items;
  kinds = facts.kinds.items;
  slots = slots_of (told_by facts) program.items;
  regions = regions_of (told_by facts) program.items;
}

module _ (program : ProgramTree) (facts : Facts) where
  -- where words are, as the crates below give it
  pub record ArePlaces (places : Slots) : Type 0 where
    pub slots : places.slots.items ≡ slots_of (told_by facts) program.items
    pub regions : places.regions.items ≡ regions_of (told_by facts) program.items
    pub owns : places.owns.items ≡ owns_of (told_by facts) program.items

  -- each table of it
  pub record IsLayout (layout : Layout) : Type 0 where
    pub rows : map row_of layout.rows.items
        ≡ g.rows (told facts.notes.items facts.kinds.items) program.items
    pub words : layout.words.items
        ≡ g.words (told facts.notes.items facts.kinds.items) program.items
    pub firsts : layout.firsts.items
        ≡ g.firsts (told facts.notes.items facts.kinds.items) program.items
    pub places : ArePlaces layout.places
    pub frames : layout.frames.items ≡ frame_sizes (tables_by program facts) program.items
    pub sites : layout.sites.items ≡ map site (sites_of (tables_by program facts) program)

  -- the variables of file scope, as the crates below give them
  pub record AreGlobals (globals : Globals) : Type 0 where
    pub rows : map row_of globals.rows.items
        ≡ g.rows (told facts.notes.items facts.kinds.items) program.items
    pub words : globals.words.items
        ≡ g.words (told facts.notes.items facts.kinds.items) program.items
    pub firsts : globals.firsts.items
        ≡ g.firsts (told facts.notes.items facts.kinds.items) program.items
    pub few : g.total (told facts.notes.items facts.kinds.items) program.items ≤ most_data_words

-- the operations and frames of a text that has neither too many operations nor a frame that is too
-- large
pub record AreSizes (tables : Tables) (items : List ItemTree) (sizes : Sizes) : Type 0 where
  pub sites : sizes.sites.items
      ≡ map site (sites_in tables (functions_of items) (functions_of items))
  pub frames : sizes.frames.items ≡ frame_sizes tables items
  pub few : count_of_sites tables items ≤ 16000
  pub small : first_large tables items ≡ None
