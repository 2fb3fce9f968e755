-- The first ones so far.
use Rattle.std.proofs.Common.{◌≡◌, ℕ, ◌<◌, List, map}
use Rattle.fk_types_names.specs.View.{mark_of}
use Rattle.fk_types_names.specs.Visible.{DeclaresAt, depth}
use Rattle.fk_types_names.specs.Locals.{IsFirstOf}
use Rattle.fk_types_names.specs.TableView.{shown}
use Rattle.fk_types_names.proofs.survey.file_scope.Given as goal

abbrev pub invariant-loop-at : goal.invariant-loop-at
invariant-loop-at l = (name : List ℕ) → IsFirstOf (λ k. (k < l.at) × (DeclaresAt (map mark_of l.marks) name k × (depth (map mark_of l.marks) k ≡ 0))) (shown l.firsts name)
