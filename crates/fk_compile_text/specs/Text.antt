-- Facts of a text: its tokens, its tree, and what is known of it.
use Rattle.std.specs.Prelude.{◌≡◌, ◌≢◌, ℕ, List, Option, Some, None, All, Contains}
use Rattle.fk_syntax.specs.declared.facts.Facts.{Facts}
use Rattle.fk_syntax.specs.declared.place.Place.{Place}
use Rattle.fk_syntax.specs.Program.{ItemTree, FunctionItem, ProgramTree}
use Rattle.fk_lex.specs.Reading.{Spelled, Tokens}
use Rattle.fk_parse_combinators.specs.declared.fault.SyntaxFault.{SyntaxFault}
use Rattle.fk_parse.specs.Parses as parses
use Rattle.fk_parse.specs.Refusals as refusals
use Rattle.fk_check.specs.Rules.{Keeps, BreaksFirst}
use Rattle.fk_check.specs.Known.{AreAllFacts}
use Rattle.fk_layout_globals.specs.Constants.{told}
use Rattle.fk_layout_globals.specs.Rows.{Row, rows}
use Rattle.fk_layout.specs.declared.sites.LayoutFault.{LayoutFault}
use Rattle.fk_layout.specs.declared.sites.LayoutFault.TheVariants as layout
use Rattle.fk_layout.specs.Layout.{tables_by}
use Rattle.fk_layout.specs.Refusal.{IsRefusal, Fits}
use Rattle.fk_layout_lookup.specs.Lookup.{Tells}
use Rattle.fk_layout_lookup.specs.declared.lookup.Lookup.{Lookup}
use Rattle.fk_layout_walk.specs.Known.{tables_of, items_in}
use Rattle.fk_layout_walk.specs.declared.known.ProgramTables.{ProgramTables}

-- A text has tokens, and the tree is theirs.
pub record HasTree (source : List ℕ) (tree : ProgramTree) : Type 0 where
  pub tokens : List Spelled
  pub spelled : Tokens source tokens
  pub derived : parses.SpellsProgram tokens tree

-- A text has tokens, and because of this fault they have no tree.
pub record HasSyntaxFault (source : List ℕ) (fault : SyntaxFault) : Type 0 where
  pub tokens : List Spelled
  pub spelled : Tokens source tokens
  pub refused : refusals.RefusesTokens tokens fault

-- A text has a tree, and of the forty rules it breaks the one of this number first, at this place.
pub record HasBrokenRule (source : List ℕ) (place : Place) (number : ℕ) : Type 0 where
  pub tree : ProgramTree
  pub parsed : HasTree source tree
  pub broken : BreaksFirst tree place number

-- A text has a tree, which keeps all rules, and these are all facts of it.
pub record IsChecked (source : List ℕ) (tree : ProgramTree) (facts : Facts) : Type 0 where
  pub parsed : HasTree source tree
  pub kept : Keeps tree
  pub known : AreAllFacts tree facts

-- a text keeps all rules, and nothing is too much of it for a layout
pub record HasLayout (source : List ℕ) : Type 0 where
  pub tree : ProgramTree
  pub facts : Facts
  pub checked : IsChecked source tree facts
  pub fits : Fits (tables_by tree facts) tree.items

-- A text keeps all rules, and there is too much of something for a layout, as this fault says.
pub record HasTooMuch (source : List ℕ) (fault : LayoutFault) : Type 0 where
  pub tree : ProgramTree
  pub facts : Facts
  pub checked : IsChecked source tree facts
  pub refused : IsRefusal (tables_by tree facts) tree.items fault

-- An item is a function of this name at this place.
abbrev pub IsFunctionAt : Place → List ℕ → ItemTree → Type 0
IsFunctionAt place name (FunctionItem function) = (function.name.place ≡ place)
    × (function.name.bytes ≡ name)
IsFunctionAt place name item = ⊥

abbrev pub HasFunctionAt : List ItemTree → Place → List ℕ → Type 0
HasFunctionAt items place name = (item : ItemTree) × Contains items item
    × IsFunctionAt place name item

-- A text keeps all rules, and a private frame of this many words is too large. The first such frame
-- is that of a function of this name.
pub record HasLargeFrame (source name : List ℕ) (words : ℕ) : Type 0 where
  pub tree : ProgramTree
  pub facts : Facts
  pub checked : IsChecked source tree facts
  pub place : Place
  pub refused : IsRefusal (tables_by tree facts) tree.items (layout.FrameTooLarge place words)
  pub named : HasFunctionAt tree.items place name

-- the lookup tells the functions and the group frames of this tree, as these facts have them
abbrev pub Finds : ProgramTree → Facts → Lookup → Type 0
Finds tree facts lookup =
    (known : ProgramTables) → tables_of known ≡ tables_by tree facts → items_in known ≡ tree.items
    → Tells known lookup

-- a text has a layout, and these are the rows of its shared variables of file scope
pub record HasRows (source : List ℕ) (all : List Row) : Type 0 where
  pub laid : HasLayout source
  pub are : all ≡ rows (told laid.facts.notes.items laid.facts.kinds.items) laid.tree.items

-- the one of these rows that has a name, and none where none has it
abbrev pub IsRowOf : List Row → List ℕ → Option Row → Type 0
IsRowOf all name (Some row) = Contains all row × (row.name ≡ name)
IsRowOf all name None = All (λ (row : Row). row.name ≢ name) all

-- A text has a layout, and this is the row of a name among those of its layout, if there is one.
pub record HasGlobal (source name : List ℕ) (row : Option Row) : Type 0 where
  pub laid : HasLayout source
  pub is : IsRowOf
      (rows (told laid.facts.notes.items laid.facts.kinds.items) laid.tree.items) name row
