-- The operation of an event, with its place.
use Rattle.std.specs.Prelude.{Option, Some, None}
use Rattle.fk_syntax.specs.declared.place.Place.{Place}
use Rattle.fk_meaning_operation.specs.declared.operation.Operation.{Operation}
use Rattle.fk_layout_walk.specs.declared.visitor.Event.{Event}
use Rattle.fk_layout_walk.specs.declared.visitor.Event.TheVariants as v

abbrev pub operation_of : Event → Option (Operation × Place)
operation_of (v.Perform op place) = Some (op, place)
operation_of (v.Choose op place) = Some (op, place)
operation_of (v.Quit op place) = Some (op, place)
operation_of (v.Call op place binding) = Some (op, place)
operation_of (v.Ends op place) = Some (op, place)
operation_of event = None
