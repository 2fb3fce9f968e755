-- Where the text of a function has group frames, and where it has a `start`.
use Rattle.std.specs.Prelude.{◌≡◌, ℕ, suc, Bool, true, false, Option, Some, None, if◌then◌else◌}
use Rattle.fk_syntax.specs.Program as p
use Rattle.fk_syntax.specs.Program.{Statement, Statements}
use Rattle.fk_meaning_forms.specs.declared.tables.Region.{Region}
use Rattle.fk_meaning_forms.specs.Tables.{Tables, note, frame_at}

-- A frame is that of the nest at a level.
abbrev pub HasLevel : (level : ℕ) → Option Region → Type 0
HasLevel level None = Unit {0}
HasLevel level (Some region) = region.level ≡ level

-- The frame of each part is on the level after that around the part.
module _ (tables : Tables) where
  -- Such is the frame of a part of a token, if the group splits there.
  abbrev pub PartHasLevel : (level at part : ℕ) → Type 0
  PartHasLevel level at part = (note tables at).splits ≡ true
      → HasLevel (suc level) (frame_at tables at part)

  abbrev pub level_in : (level at : ℕ) → ℕ
  level_in level at = if (note tables at).splits then suc level else level

  abbrev mutual
    pub StatementHasLevels : (level : ℕ) → Statement → Type 0
    StatementHasLevels l (p.Block statements) = StatementsHaveLevels l statements
    StatementHasLevels l (p.If spot condition first) = PartHasLevel l spot.at 0
        × StatementHasLevels (level_in l spot.at) first
    StatementHasLevels l (p.IfElse spot condition first second) = PartHasLevel l spot.at 0
        × PartHasLevel l spot.at 1 × StatementHasLevels (level_in l spot.at) first
        × StatementHasLevels (level_in l spot.at) second
    StatementHasLevels l (p.While spot condition body) = PartHasLevel l spot.at 0
        × StatementHasLevels (level_in l spot.at) body
    StatementHasLevels l (p.DoWhile spot body condition) = PartHasLevel l spot.at 0
        × StatementHasLevels (level_in l spot.at) body
    StatementHasLevels l (p.For spot before condition after body) = PartHasLevel l spot.at 0
        × StatementHasLevels (level_in l spot.at) body
    StatementHasLevels l (p.Start spot count body) = HasLevel (suc l) (frame_at tables spot.at 0)
        × StatementHasLevels (suc l) body
    StatementHasLevels l (p.Fork spot parts part rank body) =
        HasLevel (suc l) (frame_at tables spot.at 0) × StatementHasLevels (suc l) body
    StatementHasLevels l (p.Farm spot body) = StatementHasLevels l body
    StatementHasLevels l (p.Seq spot body) = StatementHasLevels l body
    StatementHasLevels l statement = Unit {0}

    pub StatementsHaveLevels : (level : ℕ) → Statements → Type 0
    StatementsHaveLevels l p.no_statements = Unit {0}
    StatementsHaveLevels l (p.statement first others) = StatementHasLevels l first
        × StatementsHaveLevels l others

-- Each `start` is one of the statements of `main`, and in no other one. For a function that is
-- `main` or isn't: a statement that is one of its own, or in one.
module _ (in_main : Bool) where
  abbrev mutual
    pub StartsStay : (outermost : Bool) → Statement → Type 0
    StartsStay o (p.Block statements) = AllStartsStay false statements
    StartsStay o (p.If spot condition first) = StartsStay false first
    StartsStay o (p.IfElse spot condition first second) = StartsStay false first
        × StartsStay false second
    StartsStay o (p.While spot condition body) = StartsStay false body
    StartsStay o (p.DoWhile spot body condition) = StartsStay false body
    StartsStay o (p.For spot before condition after body) = StartsStay false body
    StartsStay o (p.Start spot count body) = (in_main ≡ true) × (o ≡ true) × StartsStay false body
    StartsStay o (p.Farm spot body) = StartsStay false body
    StartsStay o (p.Seq spot body) = StartsStay false body
    StartsStay o (p.Fork spot parts part rank body) = StartsStay false body
    StartsStay o statement = Unit {0}

    pub AllStartsStay : (outermost : Bool) → Statements → Type 0
    AllStartsStay o p.no_statements = Unit {0}
    AllStartsStay o (p.statement first others) = StartsStay o first × AllStartsStay o others
