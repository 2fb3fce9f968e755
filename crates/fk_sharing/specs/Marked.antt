-- The notes after marking.
use Rattle.std.specs.Prelude.{ℕ, zero, suc, Bool, false, ◌||◌, List, [], ◌∷◌}
use Rattle.fk_syntax.specs.declared.facts.Note.{Note}
use Rattle.fk_sharing.specs.declared.around.Around.{Around}
use Rattle.fk_sharing.specs.Tokens.{TokenIn}
use Rattle.fk_sharing.specs.Broken.{is_splitting}

abbrev pub cleared : Note → Note
cleared note = record note { shared = false; splits = false }

abbrev pub joined : Note → Bool → Bool → Note
joined note shared splits =
    record note { shared = note.shared || shared; splits = note.splits || splits }

-- the marks are added to the note with this index, if there is one
unfoldable pub joined_at : List Note → ℕ → Bool → Bool → List Note
joined_at [] at shared splits = []
joined_at (note ∷ notes) zero shared splits = joined note shared splits ∷ notes
joined_at (note ∷ notes) (suc at) shared splits = note ∷ joined_at notes at shared splits

abbrev pub after : List Note → TokenIn Around → List Note
after notes token =
    joined_at notes token.spot.at token.shared (is_splitting token.around.region token.word)
