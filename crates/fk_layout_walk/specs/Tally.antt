-- A visitor that counts operations.
use Rattle.std.specs.Prelude.{◌+◌, ◌-◌, ◌^◌, min, Option, Some, None}
use Rattle.fk_syntax.specs.declared.place.Place.{Place}
use Rattle.fk_meaning_operation.specs.declared.operation.Operation.{Operation}
use Rattle.fk_layout_walk.specs.declared.visitor.Event.{Event}
use Rattle.fk_layout_walk.specs.declared.visitor.Mark.{Mark}
use Rattle.fk_layout_walk.specs.declared.tally.Tally.{Tally}
use Rattle.fk_layout_walk.specs.Event.{operation_of}

-- the count stays at the greatest number when it gets there
abbrev pub with_operation : Tally → Option (Operation × Place) → Tally
with_operation tally None = tally
with_operation tally (Some operation) = record { count = min (tally.count + 1) (2 ^ 64 - 1) }

abbrev pub tally_after : Tally → Event → Tally
tally_after tally event = with_operation tally (operation_of event)

abbrev pub no_mark : Tally → Mark
no_mark tally = record { values = 0; most = 0; nesting = 0; deepest = 0 }
