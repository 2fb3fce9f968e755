-- The joint operations that processors do in a round, if those above a last one act wherever they
-- are needed.
use Rattle.std.specs.Prelude.{ℕ, nat_lt, Bool, true, false, List, Option, Some, None, slice_get}
use Rattle.fk_meaning_operation.specs.declared.kinds.Joint.{Joint}
use Rattle.fk_meaning_operation.specs.declared.kinds.Joint.TheVariants.{Alone}
use Rattle.fk_meaning.specs.Round.{joint_due}
use Rattle.fk_core.specs.declared.op.CoreOp.{CoreOp}
use Rattle.fk_core.specs.Next.{next}
use Rattle.fk_replay_steps.specs.Steps.{position_of}
use Rattle.fk_replay_phases.specs.Actors.{due_of}
use Rattle.fk_replay_phases.specs.declared.actor.Actor.{Actor}

-- the joint operation that a processor has taken; of a processor above the last one, that which is
-- next
abbrev pub joint_next : List CoreOp → (above : Bool) → Actor → Joint
joint_next core true a = joint_due (next core (position_of a.runner))
joint_next core false a = joint_due (due_of core a)

abbrev pub joint_by : List CoreOp → (above : Bool) → Option Actor → Joint
joint_by core above None = Alone
joint_by core above (Some a) = joint_next core above a

abbrev pub joint_at : List CoreOp → List Actor → (last h : ℕ) → Joint
joint_at core actors last h = joint_by core (nat_lt last h) (slice_get actors h)
