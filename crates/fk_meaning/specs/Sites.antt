-- The sites of the operations that a run reaches.
use Rattle.std.specs.Prelude.{◌≡◌, ℕ, Bool, List, [], ◌∷◌, Option, Some, None, option_map}
use Rattle.std.specs.Prelude.{slice_get}
use Rattle.fk_syntax.specs.declared.place.Place.{Place}
use Rattle.fk_syntax.specs.Program.{ProgramTree}
use Rattle.fk_meaning_operation.specs.Kinds.{kind_of}
use Rattle.fk_meaning.specs.Round.{Step}
use Rattle.fk_meaning_forms.specs.Tables.{Tables}
use Rattle.fk_meaning_forms.specs.Program.{sites_of}
use Rattle.fk_meaning.specs.Next.{Work}
use Rattle.fk_meaning.specs.Program.{next_in, main_work}

-- the kind of the site with a number
abbrev pub kind_at : List (ℕ × Place) → (site : ℕ) → Option ℕ
kind_at sites n = option_map (λ site. site.0) (slice_get sites n)

-- the work that is left after some operations, each of which takes one of two branches
abbrev pub rest_of : Work → Bool → Option (Step Work) → Work
rest_of work onward None = work
rest_of work onward (Some step) = step.rest onward

abbrev pub after_ways : (next : Work → Option (Step Work)) → (ways : List Bool) → Work → Work
after_ways next [] work = work
after_ways next (onward ∷ ways) work = after_ways next ways (rest_of work onward (next work))

-- whichever branches are taken, the site of the next operation has the operation's kind in the list
-- of the text's sites
abbrev pub SitesHaveTheirKinds : Type 0
SitesHaveTheirKinds =
    (tables : Tables) (program : ProgramTree) (ways : List Bool) (step : Step Work)
    → next_in tables program
    (after_ways (next_in tables program) ways (main_work tables program)) ≡ Some step
    → kind_at (sites_of tables program) step.site ≡ Some (kind_of step.operation)
