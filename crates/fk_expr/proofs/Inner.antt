-- The readers of what stands one level deeper, where there may be one.
use Rattle.std.proofs.Common.{◌≡◌, ℕ, ◌+◌, ◌≤◌, Option, Some, ◌⊎◌, inl, inr}
use Rattle.fk_parse_combinators.specs.Languages.{Language}
use Rattle.fk_expr.specs.Grammar.{Deeper}
use Rattle.fk_parse_combinators.specs.Readers.{Reader, opened}
use Rattle.fk_expr.specs.Reading.{Readers, begins_suffix, begins_expression}
use Rattle.fk_parse_combinators.proofs.Sets.{Kinds}
use Rattle.fk_parse_combinators.proofs.Exact.{Shape, Exact}
use Rattle.fk_parse_combinators.proofs.Opened.{Bottom, exact_opened_none, exact_opened_some}
use Rattle.fk_parse_combinators.proofs.Productions.{IsRead}
use Rattle.fk_expr.proofs.Beginnings.{Examples, DeeperShapes}
use Rattle.fk_expr.proofs.Followers.{goes_choice, goes_assignment, goes_comma}

-- readers read what stands one level deeper exactly
pub record Below (levels : ℕ) (D : Deeper) (l : ℕ) (inner : Option Readers) (room : Type 0) : Type 0 where
  pub readers : Readers
  pub deep : inner ≡ Some readers
  pub shallow : l + 1 ≤ levels
  pub comma : IsRead levels (D.comma (l + 1)) readers.comma (l + 1) begins_expression goes_comma room
  pub assignment : IsRead levels (D.assignment (l + 1)) readers.assignment (l + 1) begins_expression goes_assignment room
  pub choice : IsRead levels (D.choice (l + 1)) readers.choice (l + 1) begins_expression goes_choice room
  pub prefix : IsRead levels (D.prefix (l + 1)) readers.prefix (l + 1) begins_expression begins_suffix room

-- at this level there are readers for the next, or that is past the bound
pub record Inner (levels : ℕ) (D : Deeper) (l : ℕ) (inner : Option Readers) (room : Type 0) : Type 0 where
  pub level : l ≤ levels
  pub shapes : DeeperShapes D (l + 1) room
  pub readers : Bottom levels inner (l + 1) ⊎ Below levels D l inner room

-- what stands one level deeper has examples
pub examples_of : {levels : ℕ} {D : Deeper} {l : ℕ} {inner : Option Readers} {room : Type 0} → Inner levels D l inner room → room → Examples D (l + 1)
examples_of w r = record {
  comma = w.shapes.comma.example r;
  assignment = w.shapes.assignment.example r;
  choice = w.shapes.choice.example r;
  prefix = w.shapes.prefix.example r;
}

-- what opens a level is read exactly, if it is where there are readers for that level
pub reads_opened : {levels : ℕ} {D : Deeper} {l : ℕ} {inner : Option Readers} {room : Type 0} {A : Type 0} {L : Language A} {is goes_on : Kinds} (f : Readers → Reader A)
    → Inner levels D l inner room → Shape L (l + 1) is room → ((v : Below levels D l inner room) → Exact levels L (f v.readers) goes_on room)
    → IsRead levels L (opened is inner f) (l + 1) is goes_on room
reads_opened {D} {l} {inner} {room} {A} {L} {is} {goes_on} f w shape exact = record {
  shape = shape;
  exact = elim w.readers [ inl b ↦ exact_opened_none f goes_on shape b | inr v ↦ exact_opened_some f v.readers shape v.deep (exact v) ];
}
