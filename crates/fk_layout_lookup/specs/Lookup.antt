-- Tables with which a walk looks up functions and group frames in one step.
use Rattle.std.specs.Prelude.{◌≡◌, ℕ, ◌==◌, ◌&&◌, Bool, not, List, Option, Some, None, slice_get}
use Rattle.std.specs.Prelude.{if◌then◌else◌}
use Rattle.std.specs.Option.{option_map}
use Rattle.fk_syntax.specs.Program.{Statements, ItemTree, FunctionItem}
use Rattle.fk_meaning_forms.specs.declared.tables.Region.{Region}
use Rattle.fk_meaning_forms.specs.Tables.{Tables, frame_in}
use Rattle.fk_meaning_forms.specs.Program.{functions_of, binding_of, signature_in}
use Rattle.fk_layout_walk.specs.declared.known.ProgramTables.{ProgramTables}
use Rattle.fk_layout_walk.specs.declared.known.Framed.{Framed}
use Rattle.fk_layout_walk.specs.Known.{tables_of, items_in, signature_at, called, framed_in}
use Rattle.fk_layout_walk.specs.Known.{part_of}
use Rattle.fk_layout_lookup.specs.declared.lookup.Lookup.{Lookup}

-- the binding of the function of an item, if it has a body
abbrev pub defined_by : Tables → ItemTree → Option ℕ
defined_by tables (FunctionItem f) = option_map (λ (body : Statements). binding_of tables f) f.body
defined_by tables item = None

-- `callees` gives the function of each binding among these items, by its index among all items
abbrev pub TellsCallees : Tables → (all items : List ItemTree) → List (Option ℕ) → Type 0
TellsCallees tables all items callees =
    (binding : ℕ) → signature_in tables (functions_of items) binding
    ≡ signature_at (called (slice_get callees binding) all)

-- `framed` gives the group frame that these regions have for each part of a token
abbrev pub TellsFrames : Tables → List Region → List Framed → Type 0
TellsFrames tables regions framed =
    (at : ℕ) (second : Bool)
    → frame_in tables regions at (part_of second) ≡ framed_in (slice_get framed at) second

-- both tables of a lookup agree with the whole text
pub record Tells (known : ProgramTables) (lookup : Lookup) : Type 0 where
  pub callees : TellsCallees (tables_of known) (items_in known)
      (items_in known) lookup.callees.items
  pub frames : TellsFrames (tables_of known) known.regions.now lookup.framed.items

-- the group frame of a part, where this region takes precedence over the others
abbrev pub with_frame : Region → (second : Bool) → (at : ℕ) (part : Bool)
    → (others : Option Region) → Option Region
with_frame region second at part others =
    if (region.at == at) && (if second then part else not part) then Some region else others
