-- A visitor that records the events that it meets, as long as there is room.
use Rattle.std.specs.Prelude.{◌+◌, length, nat_lt, if◌then◌else◌}
use Rattle.std.specs.Vec.{with_item}
use Rattle.fk_layout_walk.specs.declared.visitor.Event.{Event}
use Rattle.fk_layout_walk.specs.declared.visitor.Event.TheVariants as v
use Rattle.fk_layout_walk.specs.declared.visitor.Mark.{Mark}
use Rattle.fk_lower.specs.declared.event.CodeEvent.{CodeEvent}
use Rattle.fk_lower.specs.declared.event.CodeEvent.TheVariants as e
use Rattle.fk_lower_text.specs.declared.noting.Noting.{Noting}

-- An event of a visitor, as one for a builder.
abbrev pub told : Event → CodeEvent
told (v.Perform op place) = e.Perform op
told (v.Choose op place) = e.Choose op
told (v.Aside inside) = e.Aside
told (v.Joined outside first) = e.Joined
told (v.Quit op place) = e.Quit op
told (v.Call op place function) = e.Call op function
told (v.Returned entered void) = e.Returned
told (v.Ends op place) = e.Ends op
told v.While = e.While
told v.Until = e.Until
told v.Part = e.Part
told v.Behind = e.Behind
told v.Break = e.Break
told v.Continue = e.Continue

abbrev pub written : Noting → CodeEvent → Noting
written noting event = record noting {
  events = with_item noting.events noting.filled event;
  filled = noting.filled + 1;
}

abbrev pub noted : Noting → CodeEvent → Noting
noted noting event =
    if nat_lt noting.filled (length noting.events.items) then written noting event else noting

abbrev pub noting_after : Noting → Event → Noting
noting_after noting event = noted noting (told event)

abbrev pub no_mark : Noting → Mark
no_mark noting = record { values = 0; most = 0; nesting = 0; deepest = 0 }
