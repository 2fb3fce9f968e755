-- The notes after marking.
use Rattle.std.specs.Prelude.{ℕ, zero, suc, true, false, List, [], ◌∷◌}
use Rattle.fk_syntax.specs.declared.facts.Note.{Note}
use Rattle.fk_regions.specs.declared.around.Region.{Region}
use Rattle.fk_regions.specs.declared.around.Region.TheVariants.{Synchronous, Asynchronous, Neither}
use Rattle.fk_regions.specs.declared.around.Around.{Around}
use Rattle.fk_regions.specs.Tokens.{TokenIn}

abbrev pub cleared : Note → Note
cleared note = record note { sync = false }

abbrev pub marked : Note → Note
marked note = record note { sync = true }

-- the note with this index is marked, if there is one
unfoldable pub synchronous_at : List Note → ℕ → List Note
synchronous_at [] at = []
synchronous_at (note ∷ notes) zero = marked note ∷ notes
synchronous_at (note ∷ notes) (suc at) = note ∷ synchronous_at notes at

abbrev pub marked_by : Region → List Note → ℕ → List Note
marked_by Synchronous notes at = synchronous_at notes at
marked_by Asynchronous notes at = notes
marked_by Neither notes at = notes

abbrev pub after : List Note → TokenIn Around → List Note
after notes token = marked_by token.around.region notes token.spot.at
