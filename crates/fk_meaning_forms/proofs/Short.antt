-- Short names for the parts of trees and tables, for examples.
use Rattle.std.specs.Prelude.{ℕ, Bool, false, List, Option}
use Rattle.fk_syntax.specs.declared.facts.Note.{Note}
use Rattle.fk_syntax.specs.declared.facts.Kind.{Kind}
use Rattle.fk_syntax.specs.declared.place.Place.{Place}
use Rattle.fk_syntax.specs.declared.place.Spot.{Spot}
use Rattle.fk_syntax.specs.declared.program.Mode.{Mode}
use Rattle.fk_syntax.specs.Tree.{Named, BaseType, TypeTree, Tree}
use Rattle.fk_syntax.specs.Program.{DeclaredTree, Statements, FunctionTree, ItemTree}
use Rattle.fk_meaning_forms.specs.declared.tables.Home.{Home}
use Rattle.fk_meaning_forms.specs.declared.tables.Slot.{Slot}
use Rattle.fk_meaning_forms.specs.declared.tables.Region.{Region}
use Rattle.fk_meaning_forms.specs.Program.{sites_of}

abbrev pub place : ℕ → ℕ → Place
place line column = record { line = line; column = column }

abbrev pub sp : (token line column : ℕ) → Spot
sp token line column = record { at = token; place = place line column }

abbrev pub nm : List ℕ → (token line column : ℕ) → Named
nm name token line column = record { bytes = name; at = token; place = place line column }

abbrev pub ty : BaseType → ℕ → TypeTree
ty base stars = record { base = base; stars = stars }

abbrev pub dc : Bool → TypeTree → Named → Option ℕ → Option Tree → DeclaredTree
dc shared kind name length first = record { shared = shared; kind = kind; name = name; length = length; first = first }

abbrev pub function : Mode → TypeTree → Named → List DeclaredTree → Option Statements → FunctionTree
function mode result name parameters body =
    record { mode = mode; result = result; name = name; parameters = parameters; body = body }

abbrev pub nn : Note
nn = record { kind = 0; binding = 0; sync = false; shared = false; splits = false }

abbrev pub nt : (kind binding : ℕ) → (sync shared splits : Bool) → Note
nt kind binding sync shared splits = record { kind = kind; binding = binding; sync = sync; shared = shared; splits = splits }

abbrev pub kd : ℕ → (unsigned array : Bool) → ℕ → Kind
kd words unsigned array step = record { words = words; unsigned = unsigned; array = array; step = step }

abbrev pub sl : Home → ℕ → Slot
sl home index = record { home = home; index = index }

abbrev pub rg : (at part level words : ℕ) → Region
rg at part level words = record { at = at; part = part; level = level; words = words }

-- a site by its kind and place, and one without a place
abbrev pub at : (kind line column : ℕ) → ℕ × Place
at kind line column = (kind, place line column)

abbrev pub k : ℕ → ℕ × Place
k kind = at kind 0 0

abbrev pub sites : List ItemTree → List Note → List Kind → List Slot → List Region → List (ℕ × Place)
sites items notes kinds slots regions =
    sites_of (record { notes = notes; kinds = kinds; slots = slots; regions = regions }) (record { items = items; end = place 1 1; tokens = 0 })
