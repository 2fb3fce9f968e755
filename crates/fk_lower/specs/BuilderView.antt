-- The state of a builder, as code and what is open around it.
use Rattle.std.specs.Prelude.{ℕ, List, [], ◌∷◌, map, fold}
use Rattle.fk_meaning_forms.specs.Code.{Code}
use Rattle.fk_lower.specs.declared.block.Piece.{Piece}
use Rattle.fk_lower.specs.declared.block.Block.{Block}
use Rattle.fk_lower.specs.declared.event.CodeEvent.{CodeEvent}
use Rattle.fk_lower.specs.declared.event.CodeEvent.TheVariants as e
use Rattle.fk_lower.specs.declared.builder.Opened.{Opened}
use Rattle.fk_lower.specs.declared.builder.Opened.TheVariants as o
use Rattle.fk_lower.specs.declared.builder.Frame.{Frame}
use Rattle.fk_lower.specs.declared.builder.Builder.{Builder}
use Rattle.fk_lower.specs.Tree.{pieces_of, code_of, IsMeasured, IsPartMeasured}
use Rattle.fk_lower.specs.View.{piece_of, part_of}
use Rattle.fk_lower.specs.Building as b
use Rattle.fk_lower.specs.Building.{Event, Open, Building}

abbrev pub event_of : CodeEvent → Event
event_of (e.Perform op) = b.Perform op
event_of (e.Choose op) = b.Choose op
event_of e.Aside = b.Aside
event_of e.Joined = b.Joined
event_of (e.Quit op) = b.Quit op
event_of (e.Call op function) = b.Call op function
event_of e.Returned = b.Returned
event_of (e.Ends op) = b.Ends op
event_of e.While = b.While
event_of e.Until = b.Until
event_of e.Part = b.Part
event_of e.Behind = b.Behind
event_of e.Break = b.Break
event_of e.Continue = b.Continue

abbrev pub shown_code : List Piece → Code ℕ
shown_code pieces = code_of (pieces_of (map piece_of pieces))

abbrev pub block_code : Block → Code ℕ
block_code block = code_of (part_of block).pieces

abbrev pub open_by : (before : Code ℕ) → Opened → Open
open_by before (o.Onward act) = b.OnwardWay before act.site act.operation
open_by before (o.Aside act x) = b.AsideWay before act.site act.operation (block_code x)
open_by before o.Test = b.Test before
open_by before (o.Body test) = b.Body before (block_code test)
open_by before (o.Step test body) = b.Step before (block_code test) (block_code body)
open_by before o.FirstBody = b.FirstBody before
open_by before (o.LastTest body) = b.LastTest before (block_code body)
open_by before (o.Opening act function) = b.Opening before act.site act.operation function

-- What is open around the pieces, the innermost first.
abbrev pub outer_of : List Frame → List Open
outer_of frames = fold (λ outer (frame : Frame).
    open_by (shown_code frame.before.items) frame.opened ∷ outer) [] frames

abbrev pub building_of : Builder → Building
building_of builder =
    b.building builder.site (outer_of builder.outer.items) (shown_code builder.pieces.items)

-- The measures of all closed blocks are those of their code.
abbrev pub IsBlockMeasured : Block → Type 0
IsBlockMeasured block = IsPartMeasured (part_of block)

abbrev pub ArePiecesMeasured : List Piece → Type 0
ArePiecesMeasured pieces = IsMeasured (pieces_of (map piece_of pieces))

abbrev pub IsOpenedMeasured : Opened → Type 0
IsOpenedMeasured (o.Aside act x) = IsBlockMeasured x
IsOpenedMeasured (o.Body test) = IsBlockMeasured test
IsOpenedMeasured (o.Step test body) = IsBlockMeasured test × IsBlockMeasured body
IsOpenedMeasured (o.LastTest body) = IsBlockMeasured body
IsOpenedMeasured other = Unit {0}

abbrev pub AreFramesMeasured : List Frame → Type 0
AreFramesMeasured [] = Unit {0}
AreFramesMeasured (frame ∷ frames) = ArePiecesMeasured frame.before.items
    × IsOpenedMeasured frame.opened × AreFramesMeasured frames

abbrev pub IsBuilderMeasured : Builder → Type 0
IsBuilderMeasured builder = ArePiecesMeasured builder.pieces.items
    × AreFramesMeasured builder.outer.items
