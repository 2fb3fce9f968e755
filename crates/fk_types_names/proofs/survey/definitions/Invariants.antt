-- The first ones so far.
use Rattle.std.proofs.Common.{ℕ, ◌<◌, List, map}
use Rattle.fk_types_names.specs.View.{mark_of}
use Rattle.fk_types_names.specs.Means.{HasBodyAt}
use Rattle.fk_types_names.specs.Locals.{IsFirstOf}
use Rattle.fk_types_names.specs.TableView.{shown}
use Rattle.fk_types_names.proofs.survey.definitions.Given as goal

abbrev pub invariant-loop-at : goal.invariant-loop-at
invariant-loop-at l = (name : List ℕ) → IsFirstOf (λ k. (k < l.at) × HasBodyAt (map mark_of l.marks) name k) (shown l.firsts name)
