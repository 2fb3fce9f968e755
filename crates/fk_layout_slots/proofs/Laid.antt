-- Where the words of a text lie, for examples.
use Rattle.std.proofs.Common.{◌≡◌, List}
use Rattle.fk_syntax.specs.declared.facts.Note.{Note}
use Rattle.fk_syntax.specs.declared.facts.Kind.{Kind}
use Rattle.fk_syntax.specs.Program.{ItemTree}
use Rattle.fk_meaning_forms.specs.declared.tables.Slot.{Slot}
use Rattle.fk_meaning_forms.specs.declared.tables.Region.{Region}
use Rattle.fk_layout_slots.specs.Told.{Told}
use Rattle.fk_layout_slots.specs.Frames.{regions_of}
use Rattle.fk_layout_slots.specs.Slots.{slots_of}

abbrev pub laid : List ItemTree → List Note → List Kind → List Slot → List Region → Type 0
laid items notes kinds slots regions =
    let told : Told = record { notes = notes; kinds = kinds } in
    (slots_of told items ≡ slots) × (regions_of told items ≡ regions)
