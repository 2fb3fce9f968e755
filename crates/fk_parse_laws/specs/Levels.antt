-- The levels of the group frames of a text.
use Rattle.std.specs.Prelude.{ℕ, ◌≤◌, List, All}
use Rattle.fk_syntax.specs.Program.{ItemTree, ProgramTree}
use Rattle.fk_lex.specs.Reading.{Spelled, Tokens}
use Rattle.fk_parse_combinators.specs.declared.limits.TheConstants.{LEVELS}
use Rattle.fk_parse.specs.Parses.{SpellsProgram}
use Rattle.fk_layout_slots.specs.Told.{Told}
use Rattle.fk_layout_slots.specs.Frames.{regions_of}

-- no frame is on a deeper level than tokens may be, whatever the types of the text are and wherever
-- groups split
abbrev pub FramesAreShallow : List ItemTree → Type 0
FramesAreShallow items = (told : Told) → All (λ frame. frame.level ≤ LEVELS) (regions_of told items)

-- the frames of a text are on these levels
abbrev pub TextsAreShallow : Type 0
TextsAreShallow =
    (source : List ℕ) (tokens : List Spelled) (program : ProgramTree)
    → Tokens source tokens → SpellsProgram tokens program → FramesAreShallow program.items
