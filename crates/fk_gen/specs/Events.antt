-- Which event each operation is, and that the commits of lines tell it.
use Rattle.std.specs.Prelude.{◌≡◌, List, All, IfSome, Option, Some, None}
use Rattle.fk_meaning_operation.specs.declared.operation.Operation.{Operation}
use Rattle.fk_meaning_operation.specs.declared.operation.Operation.TheVariants as o
use Rattle.fk_image.specs.declared.event.Event.{Event}
use Rattle.fk_image.specs.declared.event.Event.TheVariants.{Split, Shrink, End, Resume, Meet, Agree}
use Rattle.fk_image.specs.Limits.{event_of_word}
use Rattle.fk_asm.specs.Block.{MarkedLine}
use Rattle.fk_gen.specs.Lines.{number_in}

-- The event of an operation, if it is one. The beginning of a `start` is a split.
abbrev pub event_of : Operation → Option Event
event_of o.Begin = Some Split
event_of (o.Split by) = Some Split
event_of o.Shrink = Some Shrink
event_of o.End = Some End
event_of o.Resume = Some Resume
event_of (o.Meet closing) = Some Meet
event_of o.Agree = Some Agree
event_of operation = None

-- The commit of a line, if it has one, tells this event, or none.
abbrev pub IsMarked : Option Event → MarkedLine → Type 0
IsMarked event m = IfSome m.commit (λ word. event_of_word word ≡ number_in event)

abbrev pub AreMarked : Option Event → List MarkedLine → Type 0
AreMarked event lines = All (IsMarked event) lines
