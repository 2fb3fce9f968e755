-- A choice whose first branch has been shown.
use Rattle.std.specs.Prelude.{ℕ, if◌then◌else◌}
use Rattle.fk_syntax.specs.declared.place.Spot.{Spot}
use Rattle.fk_meaning_operation.specs.declared.operation.Operation.TheVariants.{End, Resume}
use Rattle.fk_meaning_forms.specs.Code.{done}
use Rattle.fk_meaning_forms.specs.Tables.{Tables, note}
use Rattle.fk_meaning_forms.specs.Expressions.{Coded, Signature, Evaluation, plain, value_of}
use Rattle.fk_layout_walk.specs.declared.visitor.Event.{Event}
use Rattle.fk_layout_walk.specs.declared.visitor.Event.TheVariants.{Aside, Joined}
use Rattle.fk_layout_walk.specs.declared.visitor.Mark.{Mark}
use Rattle.fk_layout_walk.specs.declared.visitor.Ways.{Ways}
use Rattle.fk_layout_walk.specs.Through.{through}

module _ {S : Type 0} (after : S → Event → S) (mark : S → Mark)
    (functions : (binding : ℕ) → Signature) where
  -- the state after what follows the first branch: the second branch, and the code after both
  abbrev pub behind_first : S → Ways → (second rest : Coded) → S
  behind_first s ways second rest =
      through after mark functions
      (after (through after mark functions (after s (Aside ways.inside)) second)
      (Joined ways.before ways.behind))
      rest

-- where a group splits at a token, it resumes after both branches
abbrev pub rejoined : Tables → Spot → (rest : Coded) → Coded
rejoined tables spot rest = if (note tables spot.at).splits then plain Resume rest else rest

-- where a group splits, the second value of `?:` is a part, which ends
abbrev pub other_arm : Tables → ((binding : ℕ) → Signature) → Spot → (second : Evaluation) → Coded
other_arm tables functions spot second =
    if (note tables spot.at).splits then value_of tables functions second (plain End done)
    else value_of tables functions second done
