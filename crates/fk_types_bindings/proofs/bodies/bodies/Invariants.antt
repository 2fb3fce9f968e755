-- The first ones so far.
use Rattle.std.proofs.Common.{ℕ, ◌<◌, List, map}
use Rattle.fk_types_names.specs.Outline.{Declares}
use Rattle.fk_types_names.specs.View.{declaration_of}
use Rattle.fk_types_names.specs.Means.{HasBodyAt}
use Rattle.fk_types_names.specs.Locals.{IsFirstOf}
use Rattle.fk_types_names.specs.TableView.{shown}
use Rattle.fk_types_bindings.proofs.bodies.bodies.Given as goal

abbrev pub invariant-loop-number : goal.invariant-loop-number
invariant-loop-number l = (name : List ℕ) → IsFirstOf (λ k. (k < l.number) × HasBodyAt (map Declares (map declaration_of l.declared)) name k) (shown l.bodies name)
