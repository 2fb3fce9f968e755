-- Statements that contain others, by the kind of the outer one.
use Rattle.std.specs.Prelude.{ℕ, Option, Some, None, if◌then◌else◌}
use Rattle.std.specs.Option.{option_map}
use Rattle.fk_syntax.specs.declared.place.Spot.{Spot}
use Rattle.fk_syntax.specs.View.{tree_of}
use Rattle.fk_syntax.specs.Program.{Statement}
use Rattle.fk_meaning_operation.specs.declared.operation.Operation.TheVariants.{End}
use Rattle.fk_meaning_forms.specs.Code as c
use Rattle.fk_meaning_forms.specs.Code.{done}
use Rattle.fk_meaning_forms.specs.Tables.{Tables, note}
use Rattle.fk_meaning_forms.specs.Expressions.{Coded, Signature, plain}
use Rattle.fk_meaning_forms.specs.Statements.{Inside, tested, used_or, part_frame, executed}
use Rattle.fk_layout_walk.specs.declared.visitor.Event.{Event}
use Rattle.fk_layout_walk.specs.declared.visitor.Mark.{Mark}
use Rattle.fk_layout_walk.specs.declared.visitor.Ways.{Ways}
use Rattle.fk_layout_walk.specs.Ways.{behind_first, rejoined}
use Rattle.fk_layout_walk_statements.specs.declared.turns.Turns.{Turns}
use Rattle.fk_layout_walk_statements.specs.declared.turns.Turns.TheVariants as u

module _ (tables : Tables) (functions : (binding : ℕ) → Signature) where
  -- a statement that is a part of a group: its frame, its operations, and the end of the part
  abbrev pub part_of_group : Inside → Spot → (part : ℕ) → Statement → Coded
  part_of_group inside spot part s =
      part_frame tables functions spot part (executed tables functions inside s (plain End done))

  -- a loop with this body
  abbrev pub loop_of : Spot → (body : Coded) → Turns → Coded → Coded
  loop_of spot body (u.While condition) =
      c.while (tested tables functions spot (Some (tree_of condition.now))) body done
  loop_of spot body (u.Until condition) =
      c.until body (tested tables functions spot (Some (tree_of condition.now)))
  loop_of spot body (u.For condition after) =
      c.while (tested tables functions spot (option_map tree_of condition.now)) body
      (used_or tables functions (option_map tree_of after.now) done)

  -- the second branch of an `if`, which is a part if the group splits
  abbrev pub other_way : Inside → Spot → Statement → Coded
  other_way inside spot s = if (note tables spot.at).splits then part_of_group inside spot 1 s
      else executed tables functions inside s done

  -- the state after what follows the first branch of an `if` with an `else`, if something follows
  -- it
  abbrev pub behind_if : {S : Type 0} → (S → Event → S) → (S → Mark) → S → Option Ways → Inside
      → Spot → (second : Statement) → (rest : Coded) → S
  behind_if after mark state None inside spot second rest = state
  behind_if after mark state (Some ways) inside spot second rest =
      behind_first after mark functions state ways (other_way inside spot second)
      (rejoined tables spot rest)
