-- What the code looks up in the facts of a program, in the form of the definitions.
use Rattle.fk_layout_slots.specs.declared.known.TypeNotes.{TypeNotes}
use Rattle.fk_layout_slots.specs.Told.{Told}

abbrev pub told_by : TypeNotes → Told
told_by known = record { notes = known.notes.now; kinds = known.kinds.now }
