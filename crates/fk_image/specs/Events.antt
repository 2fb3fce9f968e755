-- The numbers of events in a commit table.
use Rattle.std.specs.Prelude.{ℕ}
use Rattle.fk_image.specs.declared.event.Event.{Event}
use Rattle.fk_image.specs.declared.event.Event.TheVariants.{Split, Shrink, End, Resume, Meet, Agree}

abbrev pub event_number : Event → ℕ
event_number Split = 1
event_number Shrink = 2
event_number End = 3
event_number Resume = 4
event_number Meet = 5
event_number Agree = 6
