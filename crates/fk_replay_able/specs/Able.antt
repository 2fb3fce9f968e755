-- Which processors could act, told without a round.
use Rattle.std.specs.Prelude.{◌≡◌, ℕ, Bool, true, false, Option, Some, None, slice_get, is_some, ◌⊎◌}
use Rattle.fk_tree.specs.declared.node.Kind.{Kind}
use Rattle.fk_tree.specs.declared.node.Kind.TheVariants.{Lockstep, Asynchronous}
use Rattle.fk_tree.specs.Tree as t
use Rattle.fk_tree.specs.Sound.{Has}
use Rattle.fk_meaning_operation.specs.declared.kinds.Joint.{Joint}
use Rattle.fk_meaning_operation.specs.declared.kinds.Joint.TheVariants.{Alone, AtBarrier, Resuming}
use Rattle.fk_meaning.specs.Processor.{Setting}
use Rattle.fk_meaning.specs.Round.{Step, Runner, State, joint_due}
use Rattle.fk_meaning.specs.Schedule.{CouldAct}
use Rattle.fk_replay_counts.specs.Steady.{IsSteadyInTree}

-- whether a processor before an operation of this joint kind acts without waiting for other members
-- of its node, or as one of a group in lockstep
abbrev pub waits_for_none : Option Kind → Joint → Bool
waits_for_none (Some Lockstep) joint = true
waits_for_none (Some (Asynchronous true)) AtBarrier = true
waits_for_none kind Alone = true
waits_for_none kind joint = false

abbrev pub step_of : {W : Type 0} → (W → Option (Step W)) → Option (Runner W) → Option (Step W)
step_of next None = None
step_of next (Some r) = next r.left

module _ {W : Type 0} (next : W → Option (Step W)) (s : State W) where
  -- the operation that a processor is before, and its joint kind
  abbrev pub step_at : (h : ℕ) → Option (Step W)
  step_at h = step_of next (slice_get s.runners h)

  abbrev pub joint_before : (h : ℕ) → Joint
  joint_before h = joint_due (step_at h)

  -- all members of a node stand there, before an operation of this joint kind. If they are to
  -- resume, the node is ready
  pub record AreMet (n : ℕ) (joint : Joint) : Type 0 where
    pub ready : joint ≡ Resuming → t.ready s.tree n ≡ true
    pub stand : (m : ℕ) → Has s.tree n m → s.tree.places m ≡ n
    pub before : (m : ℕ) → Has s.tree n m → joint_before m ≡ joint

  -- a processor has an operation left, and waits for none, or all whom it waits for are there
  pub record IsAble (h : ℕ) : Type 0 where
    pub goes_on : is_some (step_at h) ≡ true
    pub free : (waits_for_none (t.kind s.tree (s.tree.places h)) (joint_before h) ≡ true)
        ⊎ AreMet (s.tree.places h) (joint_before h)

-- this holds of those who could act, and of no others
pub record IsToldByAble {W : Type 0} (next : W → Option (Step W)) (set : Setting) (s : State W)
    (h : ℕ) : Type 0 where
  pub there : CouldAct next set h s → IsAble next s h
  pub back : IsAble next s h → CouldAct next set h s

abbrev pub WhoCouldActIsAble : (W X : Type 0) → Type 0
WhoCouldActIsAble W X =
    (next : W → Option (Step W)) (place : W → X) (set : Setting) (s : State W) (h : ℕ)
    → IsSteadyInTree next place set s → IsToldByAble next set s h
