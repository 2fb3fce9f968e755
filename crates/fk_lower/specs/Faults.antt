-- When code has no list.
use Rattle.std.specs.Prelude.{◌≡◌, ℕ, suc, ◌+◌, ◌*◌, ◌^◌, ◌<◌, ◌≤◌, true, List, [], ◌∷◌}
use Rattle.std.specs.List.{count_by}
use Rattle.fk_syntax.specs.declared.place.Place.{Place}
use Rattle.fk_meaning_forms.specs.Code as c
use Rattle.fk_meaning_forms.specs.Code.{Code, size}
use Rattle.fk_core.specs.Numbers.{HasNumber}
use Rattle.fk_lower.specs.declared.fault.LowerFault.{LowerFault}
use Rattle.fk_lower.specs.declared.fault.LowerFault.TheVariants.{TooLong, OutOfRange, Misplaced}
use Rattle.fk_lower.specs.declared.fault.LowerFault.TheVariants.{Memory}
use Rattle.fk_lower.specs.Building.{Event, has_site, events_of, IsUnbegun, IsPlaced, Open}
use Rattle.fk_lower.specs.Building.{OnwardWay, AsideWay, Test, Body, Step, FirstBody, LastTest}
use Rattle.fk_lower.specs.Building.{Opening, Building}
use Rattle.fk_lower.specs.Tree as t
use Rattle.fk_lower.specs.Tree.{PieceTree, Pieces, Part, code_of}
use Rattle.fk_lower.specs.Lowered.{total}

-- These events show no code.
abbrev pub ShowsNoCode : List Event → Type 0
ShowsNoCode events = (code : Code Place) → IsUnbegun code → events_of code ≡ events → ⊥

-- Each operation has at most three entries of a list: itself and two jumps. `TooLong`: that would
-- be too many, those of the sites before included. `Misplaced`: the events show no code. `Memory`:
-- there isn't enough memory, which no clause can say.
abbrev pub IsBuildFault : (site : ℕ) → List Event → LowerFault → Type 0
IsBuildFault site events TooLong = 2 ^ 32 ≤ 3 * (site + count_by has_site events)
IsBuildFault site events Misplaced = ShowsNoCode events
IsBuildFault site events OutOfRange = ⊥
IsBuildFault site events Memory = Unit {0}

-- The faults of one event.
abbrev pub IsEventFault : Building → Event → LowerFault → Type 0
IsEventFault b event TooLong = (has_site event ≡ true) × (2 ^ 32 ≤ 3 * (b.site + 1))
IsEventFault b event Misplaced = IsPlaced event b.outer → ⊥
IsEventFault b event OutOfRange = ⊥
IsEventFault b event Memory = Unit {0}

-- The number of operations in what is built.
abbrev pub size_of_open : Open → ℕ
size_of_open (OnwardWay before n op) = suc (size before)
size_of_open (AsideWay before n op x) = suc (size before + size x)
size_of_open (Test before) = size before
size_of_open (Body before test) = size before + size test
size_of_open (Step before test body) = size before + size test + size body
size_of_open (FirstBody before) = size before
size_of_open (LastTest before body) = size before + size body
size_of_open (Opening before n op f) = suc (size before)

abbrev pub size_of_outer : List Open → ℕ
size_of_outer [] = 0
size_of_outer (part ∷ outer) = size_of_open part + size_of_outer outer

abbrev pub size_of_building : Building → ℕ
size_of_building b = size b.code + size_of_outer b.outer

-- Each operation has a site of its own, and all their entries have indices.
pub record IsFew (b : Building) : Type 0 where
  pub sites : size_of_building b ≤ b.site
  pub entries : 3 * size_of_building b < 2 ^ 32

-- Each operation of code has a number.
abbrev pub HaveNumbers : {A : Type 0} → Code A → Type 0
HaveNumbers c.done = Unit {0}
HaveNumbers (c.perform n op rest) = HasNumber op × HaveNumbers rest
HaveNumbers (c.choose n op x y rest) = HasNumber op × HaveNumbers x × HaveNumbers y
    × HaveNumbers rest
HaveNumbers (c.while test body step rest) = HaveNumbers test × HaveNumbers body × HaveNumbers step
    × HaveNumbers rest
HaveNumbers (c.until body test rest) = HaveNumbers body × HaveNumbers test × HaveNumbers rest
HaveNumbers (c.turn test body step rest) = HaveNumbers test × HaveNumbers body × HaveNumbers step
    × HaveNumbers rest
HaveNumbers (c.again test body step rest) = HaveNumbers test × HaveNumbers body × HaveNumbers step
    × HaveNumbers rest
HaveNumbers (c.quit n op rest) = HasNumber op × HaveNumbers rest
HaveNumbers (c.break rest) = HaveNumbers rest
HaveNumbers (c.continue rest) = HaveNumbers rest
HaveNumbers (c.call n op f opening rest) = HasNumber op × HaveNumbers opening × HaveNumbers rest
HaveNumbers (c.ends n op rest) = HasNumber op × HaveNumbers rest

-- Each operation of code in memory has a number.
abbrev mutual
  pub AreNumbered : Pieces → Type 0
  AreNumbered t.no_pieces = Unit {0}
  AreNumbered (t.piece first others) = IsNumbered first × AreNumbered others

  pub IsNumbered : PieceTree → Type 0
  IsNumbered (t.Perform act) = HasNumber act.operation
  IsNumbered (t.Choose act x of_x y of_y) = HasNumber act.operation × AreNumbered x × AreNumbered y
  IsNumbered (t.While test of_test body of_body step of_step) = AreNumbered test × AreNumbered body
      × AreNumbered step
  IsNumbered (t.Until body of_body test of_test) = AreNumbered body × AreNumbered test
  IsNumbered (t.Quit act) = HasNumber act.operation
  IsNumbered t.Break = Unit {0}
  IsNumbered t.Continue = Unit {0}
  IsNumbered (t.Call act function opening of_opening) = HasNumber act.operation
      × AreNumbered opening
  IsNumbered (t.Ends act) = HasNumber act.operation

abbrev pub AllNumbered : List Part → Type 0
AllNumbered [] = Unit {0}
AllNumbered (part ∷ parts) = AreNumbered part.pieces × AllNumbered parts

-- Each operation of the code of all functions has a number.
abbrev pub AllHaveNumbers : List Part → Type 0
AllHaveNumbers [] = Unit {0}
AllHaveNumbers (part ∷ parts) = HaveNumbers (code_of part.pieces) × AllHaveNumbers parts

-- The lists of all functions are too long together; an operation has no number; or there isn't
-- enough memory.
abbrev pub IsListFault : List Part → LowerFault → Type 0
IsListFault parts TooLong = 2 ^ 32 ≤ total parts
IsListFault parts OutOfRange = AllHaveNumbers parts → ⊥
IsListFault parts Misplaced = ⊥
IsListFault parts Memory = Unit {0}

-- If the lists have room, only these faults remain: an operation has no number, or there isn't
-- enough memory.
abbrev pub IsWriteFault : LowerFault → Type 0
IsWriteFault OutOfRange = Unit {0}
IsWriteFault Memory = Unit {0}
IsWriteFault fault = ⊥
