-- The first ones so far.
use Rattle.std.proofs.Common.{ℕ, ◌<◌, List, map}
use Rattle.fk_syntax.specs.ProgramView.{item_of}
use Rattle.fk_types_names.specs.Locals.{IsFirstOf}
use Rattle.fk_types_names.specs.TableView.{shown}
use Rattle.fk_types_name_rules.specs.Headers.{HasBodyAt}
use Rattle.fk_types_name_rules.proofs.headers.first_bodies.Given as goal

abbrev pub invariant-loop-at : goal.invariant-loop-at
invariant-loop-at l = (name : List ℕ) → IsFirstOf (λ k. (k < l.at) × HasBodyAt (map item_of l.items) name k) (shown l.bodies name)
