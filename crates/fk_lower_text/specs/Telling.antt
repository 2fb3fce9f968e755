-- A visitor that records the depths of operations, as long as there is room.
use Rattle.std.specs.Prelude.{◌+◌, length, nat_lt, List, [], ◌∷◌, Option, Some, None, if◌then◌else◌}
use Rattle.std.specs.Vec.{with_item}
use Rattle.fk_meaning_operation.specs.declared.operation.Operation.{Operation}
use Rattle.fk_syntax.specs.declared.place.Place.{Place}
use Rattle.fk_syntax.specs.Program.{FunctionTree}
use Rattle.fk_layout_walk.specs.declared.known.ProgramTables.{ProgramTables}
use Rattle.fk_layout_walk.specs.declared.visitor.Event.{Event}
use Rattle.fk_layout_walk.specs.declared.visitor.Mark.{Mark}
use Rattle.fk_layout_walk.specs.Event.{operation_of}
use Rattle.fk_layout_walk.specs.Known.{functions_of}
use Rattle.fk_layout_walk.specs.Through.{through}
use Rattle.fk_layout_walk_statements.specs.Texts.{code_in}
use Rattle.fk_lower_text.specs.declared.depths.Depths.{Depths}
use Rattle.fk_lower_text.specs.Height.{high, depth, after, mark_of}

abbrev pub deeper : Depths → Depths
deeper depths = record depths {
  told = with_item depths.told depths.filled (depth depths.height);
  filled = depths.filled + 1;
}

abbrev pub told_depth : Depths → Depths
told_depth depths =
    if nat_lt depths.filled (length depths.told.items) then deeper depths else depths

abbrev pub with_depth : Depths → Option (Operation × Place) → Depths
with_depth depths None = depths
with_depth depths (Some operation) = told_depth depths

abbrev pub depths_after : Depths → Event → Depths
depths_after depths event =
    record (with_depth depths (operation_of event)) { height = after depths.height event }

abbrev pub depths_mark : Depths → Mark
depths_mark depths = mark_of depths.height

-- Each function begins without values.
abbrev pub begun : Depths → Depths
begun depths = record depths { height = high 0 None }

abbrev pub through_functions : ProgramTables → Depths → List FunctionTree → Depths
through_functions known depths [] = depths
through_functions known depths (f ∷ fs) =
    through_functions known
    (through depths_after depths_mark (functions_of known) (begun depths) (code_in known f)) fs
