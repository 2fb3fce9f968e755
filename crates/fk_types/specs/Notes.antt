-- The notes made from two tables.
use Rattle.std.specs.Prelude.{ℕ, false, List, [], ◌∷◌}
use Rattle.fk_syntax.specs.declared.facts.Note.{Note}

-- the note of a token; the facts of regions and sharing aren't known yet
abbrev pub note_of : ℕ → ℕ → Note
note_of kind binding =
    record { kind = kind; binding = binding; sync = false; shared = false; splits = false }

-- a note of each token, with the number of its kind and its binding
abbrev pub notes_of : List ℕ → List ℕ → List Note
notes_of [] bindings = []
notes_of (kind ∷ kinds) [] = []
notes_of (kind ∷ kinds) (binding ∷ bindings) = note_of kind binding ∷ notes_of kinds bindings
