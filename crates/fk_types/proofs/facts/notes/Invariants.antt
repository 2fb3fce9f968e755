-- The notes of the tokens so far were made.
use Rattle.std.proofs.Common.{◌≡◌, take}
use Rattle.fk_types.specs.Notes.{notes_of}
use Rattle.fk_types.proofs.facts.notes.Given as goal

abbrev pub invariant-loop-at : goal.invariant-loop-at
invariant-loop-at l = l.notes.items ≡ notes_of (take l.at l.kinds) (take l.at l.bindings)
