-- Where a variable of a group frame is named, its frame is among those that the code has taken
-- there, and its words are in that frame.
use Rattle.std.specs.Prelude.{◌≡◌, ℕ, ◌+◌, ◌<◌, ◌≤◌, Bool, true, false, List, [], ◌∷◌, Option, Some}
use Rattle.std.specs.Prelude.{None, slice_get, if◌then◌else◌}
use Rattle.fk_syntax.specs.declared.facts.Facts.{Facts}
use Rattle.fk_syntax.specs.Program as p
use Rattle.fk_syntax.specs.Program.{Statement, Statements, FunctionTree, ProgramTree}
use Rattle.fk_types_names.specs.Outline.{DeclarationTree, MarkTree, Variable, Declares, Uses}
use Rattle.fk_types_names.specs.Outline.{declarations, tree_marks, optional_marks, variables_marks}
use Rattle.fk_meaning_forms.specs.declared.tables.Home.{Home}
use Rattle.fk_meaning_forms.specs.declared.tables.Home.TheVariants as h
use Rattle.fk_meaning_forms.specs.declared.tables.Region.{Region}
use Rattle.fk_meaning_forms.specs.Tables.{Tables, note, kind_at, slot, region}
use Rattle.fk_meaning_forms.specs.Tables as t
use Rattle.fk_meaning_forms.specs.Program.{functions_of, is_main}
use Rattle.fk_layout_slots.specs.Frames.{last_word}
use Rattle.fk_layout.specs.Layout.{tables_by}
use Rattle.fk_layout.specs.Refusal.{Fits}
use Rattle.fk_lockstep_frames.specs.Nests.{Nest, OfFunction, OfPart, frame_at}
use Rattle.fk_parse_laws.specs.Trim.{ProgramIsTrim}
use Rattle.fk_check_laws.specs.Correct.{IsCorrect}
use Rattle.fk_lower_names.specs.Proper.{ProgramIsProper}

-- These words of a region are in the frame that the nests have at the level of the region. A frame
-- of more than 2^20 words is told as one of 2^20 + 1, and its variables then begin in it.
pub record IsOpen (nests : List Nest) (region : Region) (first words : ℕ) : Type 0 where
  pub frame : frame_at nests region.level ≡ Some region.words
  pub begins : first < region.words
  pub ends : region.words ≤ last_word → first + words ≤ region.words

abbrev pub is_group : Home → Bool
is_group (h.Group r) = true
is_group home = false

abbrev pub frame_words : Option Region → Option ℕ
frame_words None = None
frame_words (Some r) = Some r.words

module _ (program : ProgramTree) (tables : Tables) where
  abbrev pub words_of : Option DeclarationTree → ℕ
  words_of (Some (Variable x)) = (kind_at tables x.name.at).words
  words_of declaration = 0

  abbrev pub IsOpenAt : List Nest → Home → (first words : ℕ) → Type 0
  IsOpenAt nests (h.Group r) first words = IsOpen nests (region tables r) first words
  IsOpenAt nests home first words = Unit {0}

  -- What a binding means is open, if it is a variable of a group frame.
  abbrev pub BindsOpen : List Nest → (binding : ℕ) → Type 0
  BindsOpen nests binding =
      IsOpenAt nests (slot tables binding).home (slot tables binding).index
      (words_of (slice_get (declarations program) binding))

  -- The `sh` variables of functions are those of group frames.
  abbrev pub IsOpenFor : List Nest → MarkTree → Type 0
  IsOpenFor nests (Uses name) = BindsOpen nests (note tables name.at).binding
  IsOpenFor nests (Declares (Variable x)) =
      let binding = (note tables x.name.at).binding in
      BindsOpen nests binding
      × (x.shared ≡ true → is_group (slot tables binding).home ≡ true)
  IsOpenFor nests mark = Unit {0}

  abbrev pub AreOpenFor : List Nest → List MarkTree → Type 0
  AreOpenFor nests [] = Unit {0}
  AreOpenFor nests (mark ∷ marks) = IsOpenFor nests mark × AreOpenFor nests marks

  -- The nests in a part of a token, and those in a body that is a part where the group splits. The
  -- parts of `start` and `fork` are numbered.
  abbrev pub in_part : (numbered : Bool) → (at part : ℕ) → List Nest → List Nest
  in_part numbered at part nests =
      OfPart numbered (frame_words (t.frame_at tables at part)) ∷ nests

  abbrev pub in_split : (at part : ℕ) → List Nest → List Nest
  in_split at part nests = if (note tables at).splits then in_part false at part nests else nests

  -- Each name in a statement is open in the nests at its place.
  abbrev mutual
    pub StatementIsOpen : List Nest → Statement → Type 0
    StatementIsOpen nests (p.Expression e) = AreOpenFor nests (tree_marks e)
    StatementIsOpen nests (p.Block statements) = StatementsAreOpen nests statements
    StatementIsOpen nests (p.Declare variables) = AreOpenFor nests (variables_marks variables)
    StatementIsOpen nests (p.If spot condition first) =
        AreOpenFor nests (tree_marks condition)
        × StatementIsOpen (in_split spot.at 0 nests) first
    StatementIsOpen nests (p.IfElse spot condition first second) =
        AreOpenFor nests (tree_marks condition)
        × StatementIsOpen (in_split spot.at 0 nests) first
        × StatementIsOpen (in_split spot.at 1 nests) second
    StatementIsOpen nests (p.While spot condition body) =
        AreOpenFor (in_split spot.at 0 nests) (tree_marks condition)
        × StatementIsOpen (in_split spot.at 0 nests) body
    StatementIsOpen nests (p.DoWhile spot body condition) =
        AreOpenFor (in_split spot.at 0 nests) (tree_marks condition)
        × StatementIsOpen (in_split spot.at 0 nests) body
    StatementIsOpen nests (p.For spot before condition after body) =
        AreOpenFor nests (optional_marks before)
        × AreOpenFor (in_split spot.at 0 nests) (optional_marks condition)
        × AreOpenFor (in_split spot.at 0 nests) (optional_marks after)
        × StatementIsOpen (in_split spot.at 0 nests) body
    StatementIsOpen nests (p.Start spot count body) =
        AreOpenFor nests (optional_marks count)
        × StatementIsOpen (in_part true spot.at 0 nests) body
    StatementIsOpen nests (p.Fork spot parts part rank body) =
        AreOpenFor nests (tree_marks parts) × AreOpenFor nests (tree_marks part)
        × AreOpenFor nests (optional_marks rank)
        × StatementIsOpen (in_part true spot.at 0 nests) body
    StatementIsOpen nests (p.Farm spot body) = StatementIsOpen nests body
    StatementIsOpen nests (p.Seq spot body) = StatementIsOpen nests body
    StatementIsOpen nests (p.Return spot e) = AreOpenFor nests (optional_marks e)
    StatementIsOpen nests statement = Unit {0}

    pub StatementsAreOpen : List Nest → Statements → Type 0
    StatementsAreOpen nests p.no_statements = Unit {0}
    StatementsAreOpen nests (p.statement first others) =
        StatementIsOpen nests first × StatementsAreOpen nests others

  abbrev pub BodyIsOpen : List Nest → Option Statements → Type 0
  BodyIsOpen nests None = Unit {0}
  BodyIsOpen nests (Some body) = StatementsAreOpen nests body

  -- The words of a function's own frame, and its nests. `main` takes none.
  abbrev pub own_frame : FunctionTree → Option ℕ
  own_frame f = if is_main f then None else frame_words (t.frame_at tables f.name.at 0)

  abbrev pub FunctionIsOpen : FunctionTree → Type 0
  FunctionIsOpen f = let nests = OfFunction (own_frame f) ∷ [] in
      AreOpenFor nests (variables_marks f.parameters) × BodyIsOpen nests f.body

  abbrev pub FunctionsAreOpen : List FunctionTree → Type 0
  FunctionsAreOpen [] = Unit {0}
  FunctionsAreOpen (f ∷ fs) = FunctionIsOpen f × FunctionsAreOpen fs

-- Each name in a program that keeps all rules is open.
abbrev pub NamesAreOpen : Type 0
NamesAreOpen =
    (program : ProgramTree) (facts : Facts) → IsCorrect program facts → ProgramIsTrim program
    → ProgramIsProper program
    → let tables = tables_by program facts in
    Fits tables program.items → FunctionsAreOpen program tables (functions_of program.items)
