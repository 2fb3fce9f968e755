-- Who is known to be able, and how many have come to joint operations, in memory.
use Rattle.std.specs.Prelude.{◌≡◌, ℕ, suc, ◌||◌, Bool, List, Option, Some, None, slice_get, is_some}
use Rattle.std.specs.Prelude.{if◌then◌else◌, length}
use Rattle.fk_tree.specs.Tree as t
use Rattle.fk_tree.specs.Tree.{is_member}
use Rattle.fk_meaning_operation.specs.Kinds.{joint_of}
use Rattle.fk_meaning_operation.specs.declared.kinds.Joint.{Joint}
use Rattle.fk_meaning_operation.specs.declared.kinds.Joint.TheVariants.{Alone, Starting, AtBarrier}
use Rattle.fk_meaning_operation.specs.declared.kinds.Joint.TheVariants.{Closing}
use Rattle.fk_meaning.specs.Processor.{Setting}
use Rattle.fk_meaning.specs.Round.{State, same_joint}
use Rattle.fk_core.specs.declared.op.CoreOp.{CoreOp}
use Rattle.fk_core.specs.Next.{Position, next, landing}
use Rattle.fk_lockstep_tree.specs.Runs.{StandsInTree}
use Rattle.fk_replay_steps.specs.Pace.{Absences, since}
use Rattle.fk_replay_steps.specs.declared.list.Due.{Due}
use Rattle.fk_replay_phases.specs.declared.actor.Actor.{Actor}
use Rattle.fk_replay_phases.specs.declared.acting.Acting.{Acting}
use Rattle.fk_replay_phases.specs.Actors.{runners_of}
use Rattle.fk_replay_able.specs.Known.{KnowsAble}
use Rattle.fk_replay_arrivals.specs.declared.arrived.Arrived.{Arrived}

-- how many are before an operation of a joint kind. Who resumes isn't counted
abbrev pub number_in : Joint → Arrived → ℕ
number_in Starting a = a.starting
number_in AtBarrier a = a.at_barrier
number_in Closing a = a.closing
number_in joint a = 0

abbrev pub number_for : Joint → Option Arrived → ℕ
number_for joint None = 0
number_for joint (Some a) = number_in joint a

-- those that the lowest member of a node counts
abbrev pub arrived_in : List Arrived → (h : ℕ) → Joint → ℕ
arrived_in arrived h joint = number_for joint (slice_get arrived h)

-- who is known to be able
abbrev pub is_known : Absences → (h : ℕ) → Bool
is_known absences h = is_some (since absences h)

abbrev pub is_counted : Joint → Bool
is_counted joint = same_joint joint Starting || same_joint joint AtBarrier || same_joint joint Closing

-- one joint kind has another number, and the others have the same
abbrev pub HasNumber : Joint → (number : ℕ) → (old new : Arrived) → Type 0
HasNumber joint number old new =
    (j : Joint) → number_in j new ≡ (if same_joint j joint then number else number_in j old)

-- one more is before an operation of a joint kind
pub record HasOneMore (joint : Joint) (number : ℕ) (old new : Arrived) : Type 0 where
  pub number_is : number ≡ suc (number_in joint old)
  pub one : HasNumber joint number old new

abbrev pub joint_taken : Option Due → Joint
joint_taken None = Alone
joint_taken (Some due) = joint_of due.operation

-- the lowest member of a node does an operation of this joint kind in the round
pub record IsDoneBy (acting : List Acting) (actors : List Actor) (h : ℕ) (joint : Joint)
    : Type 0 where
  pub index : ℕ
  pub member : Acting
  pub at : slice_get acting index ≡ Some member
  pub number : member.number ≡ h
  pub lowest : member.lowest ≡ h
  pub actor : Actor
  pub there : slice_get actors h ≡ Some actor
  pub taken : joint ≡ joint_taken actor.taken

-- nobody has come any longer to the joint operations that are done in a round
pub record HaveForgotten (acting : List Acting) (actors : List Actor) (old new : List Arrived)
    : Type 0 where
  pub many : length new ≡ length old
  pub done : (h : ℕ) (joint : Joint) → IsDoneBy acting actors h joint
      → arrived_in new h joint ≡ 0
  pub kept : (h : ℕ) (joint : Joint) → (IsDoneBy acting actors h joint → ⊥)
      → arrived_in new h joint ≡ arrived_in old h joint

-- who wasn't known becomes known from a round on
pub record BecomesKnown (round : ℕ) (old new : Absences) : Type 0 where
  pub many : length new ≡ length old
  pub kept : (m first : ℕ) → since old m ≡ Some first → since new m ≡ Some first
  pub begun : (m first : ℕ) → since old m ≡ None → since new m ≡ Some first → first ≡ round

-- some processors could act from a round on. Who could act before is known since the same round
pub record HaveBegun (members : List ℕ) (round : ℕ) (old new : Absences) : Type 0 where
  pub becomes : BecomesKnown round old new
  pub known : (m : ℕ) → is_known new m ≡ (is_member m members || is_known old m)

-- the processors of a state are in memory
pub record AreOf (tree : t.Tree) (actors : List Actor) (s : State Position) : Type 0 where
  pub tree_is : s.tree ≡ tree
  pub runners_are : s.runners ≡ runners_of actors

-- if some were still to come and now others are, then what was known is known
abbrev pub KnowsBehind : List CoreOp → t.Tree → List Actor → (before after : List ℕ)
    → (old new : Absences) → (was is : List Arrived) → Type 0
KnowsBehind core tree actors before after old new was is =
    (set : Setting) (s : State Position) → AreOf tree actors s
    → StandsInTree (next core) (λ w. landing core w.at) set s
    → KnowsAble (next core) s before (is_known old) (arrived_in was)
    → KnowsAble (next core) s after (is_known new) (arrived_in is)
