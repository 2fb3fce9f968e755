-- The tables of a program in the form that the definitions of code use.
use Rattle.std.specs.Prelude.{◌≡◌, ℕ, Bool, List, map, slice_get, Option, Some, None, if◌then◌else◌}
use Rattle.fk_syntax.specs.Program as p
use Rattle.fk_syntax.specs.Program.{FunctionTree, ItemTree}
use Rattle.fk_syntax.specs.ProgramView.{item_of}
use Rattle.fk_meaning_forms.specs.declared.tables.Region.{Region}
use Rattle.fk_meaning_forms.specs.Tables.{Tables, frame_at}
use Rattle.fk_meaning_forms.specs.Expressions.{Signature}
use Rattle.fk_meaning_forms.specs.Program as f
use Rattle.fk_meaning_forms.specs.Program.{signature_of, no_signature, signature_in}
use Rattle.fk_layout_walk.specs.declared.known.ProgramTables.{ProgramTables}
use Rattle.fk_layout_walk.specs.declared.known.Framed.{Framed}

abbrev pub tables_of : ProgramTables → Tables
tables_of known = record {
  notes = known.notes.now;
  kinds = known.kinds.now;
  slots = known.slots.now;
  regions = known.regions.now;
}

abbrev pub items_in : ProgramTables → List ItemTree
items_in known = map item_of known.items.now

-- the signature of the function that a binding names
abbrev pub functions_of : ProgramTables → (binding : ℕ) → Signature
functions_of known binding =
    signature_in (tables_of known) (f.functions_of (items_in known)) binding

-- the signature of a function, if there is one
abbrev pub signature_at : Option FunctionTree → Signature
signature_at None = no_signature
signature_at (Some f) = signature_of f

abbrev pub function_in : Option ItemTree → Option FunctionTree
function_in (Some (p.FunctionItem f)) = Some f
function_in item = None

abbrev pub called : Option (Option ℕ) → List ItemTree → Option FunctionTree
called (Some (Some i)) items = function_in (slice_get items i)
called index items = None

-- the group frame of a part of a token
abbrev pub framed_in : Option Framed → (second : Bool) → Option Region
framed_in None second = None
framed_in (Some framed) second = if second then framed.second else framed.first

abbrev pub part_of : (second : Bool) → ℕ
part_of second = if second then 1 else 0

-- `callees` names the same functions as the bindings do, and `framed` has the same group frames as
-- the regions do
pub record IsSound (known : ProgramTables) : Type 0 where
  pub callees : (binding : ℕ) → functions_of known binding
      ≡ signature_at (called (slice_get known.callees.now binding) (items_in known))
  pub frames : (at : ℕ) (second : Bool) → frame_at (tables_of known) at (part_of second)
      ≡ framed_in (slice_get known.framed.now at) second
