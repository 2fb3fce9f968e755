-- A visitor that counts events.
use Rattle.std.specs.Prelude.{◌+◌, ◌-◌, ◌^◌, min}
use Rattle.fk_layout_walk.specs.declared.visitor.Event.{Event}
use Rattle.fk_layout_walk.specs.declared.visitor.Mark.{Mark}
use Rattle.fk_lower_text.specs.declared.count.Count.{Count}

-- A count above 2^64 - 1 stays at that number.
abbrev pub count_after : Count → Event → Count
count_after count event = record { events = min (count.events + 1) (2 ^ 64 - 1) }

abbrev pub no_mark : Count → Mark
no_mark count = record { values = 0; most = 0; nesting = 0; deepest = 0 }
