-- The order of the group frames of a program, which all come after its first token.
use Rattle.std.specs.Prelude.{◌<◌, List, All}
use Rattle.fk_syntax.specs.Program.{ProgramTree}
use Rattle.fk_lex.specs.Reading.{Spelled}
use Rattle.fk_parse.specs.Parses.{SpellsProgram}
use Rattle.fk_layout_slots.specs.Told.{Told}
use Rattle.fk_layout_slots.specs.Frames.{regions_of}
use Rattle.fk_parse_laws.specs.Order.{AreInOrder}

-- the frames of a program that tokens spell are in order, whatever its facts are
abbrev pub FramesStandInOrder : Type 0
FramesStandInOrder =
    (told : Told) (tokens : List Spelled) (program : ProgramTree) → SpellsProgram tokens program
    → AreInOrder (regions_of told program.items)

-- no frame is at the first token
abbrev pub FramesStandBehindFirst : Type 0
FramesStandBehindFirst =
    (told : Told) (tokens : List Spelled) (program : ProgramTree) → SpellsProgram tokens program
    → All (λ frame. 0 < frame.at) (regions_of told program.items)
