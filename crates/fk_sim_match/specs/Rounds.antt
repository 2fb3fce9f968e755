-- The round of those whose stages commit is allowed.
use Rattle.std.specs.Prelude.{◌≡◌, ℕ, zero, suc, ◌+◌, List, [], ◌∷◌, length, map, true, false}
use Rattle.std.specs.Prelude.{Option, Some, None}
use Rattle.fk_num.specs.Word.{Memory}
use Rattle.fk_space.specs.Space.{Space}
use Rattle.fk_tree.specs.declared.node.Kind.{Kind}
use Rattle.fk_tree.specs.declared.node.Kind.TheVariants.{Waiting, Asynchronous}
use Rattle.fk_tree.specs.Tree as t
use Rattle.fk_tree.specs.Tree.{Tree}
use Rattle.fk_tree.specs.Sound.{IsSound}
use Rattle.fk_meaning_operation.specs.Kinds.{joint_of}
use Rattle.fk_meaning_operation.specs.declared.kinds.Joint.{Joint}
use Rattle.fk_meaning_operation.specs.declared.kinds.Joint.TheVariants.{Alone, Starting, AtBarrier}
use Rattle.fk_meaning_operation.specs.declared.kinds.Joint.TheVariants.{Closing, Resuming}
use Rattle.fk_meaning.specs.Processor.{Setting}
use Rattle.fk_meaning.specs.Round.{Step, Runner, State, is_allowed}
use Rattle.fk_core.specs.declared.op.CoreOp.{CoreOp}
use Rattle.fk_core.specs.Next.{Position, next}
use Rattle.fk_image.specs.declared.Image.{Image}
use Rattle.fk_machine.specs.Hart.{Hart, Setting as MachineSetting}
use Rattle.fk_sim_match.specs.Stage.{Ending, Commits, Unites, Stage, Ended, Acts, Meets, counts_for}
use Rattle.fk_sim_match.specs.Plan.{IsInside, IsBound}
use Rattle.fk_sim_block.specs.Owner.{Heaps, Owner, core_source}
use Rattle.fk_sim_block.specs.Stands.{Places}
use Rattle.fk_sim_block.specs.Node.{Nestings}
use Rattle.fk_sim_match.specs.Nodes.{first_of, HaveSpaces, is_arrival, is_lockstep, nodes_of}
use Rattle.fk_sim_match.specs.Nodes.{plan_of}
use Rattle.fk_sim_match.specs.Behind.{blocks_of}

-- What the members who meet at a word of a node do together.
abbrev pub closing_joint : (g : ℕ) → Option Kind → Joint
closing_joint g (Some (Waiting first parts)) = Resuming
closing_joint zero (Some (Asynchronous alone)) = Starting
closing_joint (suc g) (Some (Asynchronous alone)) = Closing
closing_joint g kind = Alone

abbrev pub joint_at_word : (g : ℕ) → Option Kind → (offset : ℕ) → Joint
joint_at_word g kind zero = AtBarrier
joint_at_word g kind (suc zero) = closing_joint g kind
joint_at_word g kind (suc (suc i)) = Alone

-- How members leave a word. Only at the beginning of `start` is leaving not the commit.
abbrev pub ending_of : Joint → Ending
ending_of Starting = Unites
ending_of joint = Commits

module _ (core : List CoreOp) (tree : Tree) (spaces : ℕ → Space) where
  -- A processor is about to do one operation by itself, or with its group in lockstep.
  pub record IsDue (g inner : ℕ) (r : Runner Position) : Type 0 where
    pub single : inner ≡ 0
    pub step : Step Position
    pub next_is : next core r.left ≡ Some step
    pub joint : is_lockstep (t.kind tree g) ≡ false → joint_of step.operation ≡ Alone

  -- A processor is about to do something with those who meet at this word of its node.
  pub record MeetsAtWord (ending : Ending) (g w : ℕ) (r : Runner Position) : Type 0 where
    pub offset : ℕ
    pub step : Step Position
    pub next_is : next core r.left ≡ Some step
    pub word_is : w ≡ first_of spaces g + offset
    pub arrival : is_arrival offset ≡ true
    pub joint : joint_of step.operation ≡ joint_at_word g (t.kind tree g) offset
    pub ends : ending ≡ ending_of (joint_at_word g (t.kind tree g) offset)

  abbrev pub IsDueAt : (g : ℕ) → Stage → Runner Position → Type 0
  IsDueAt g Ended r = next core r.left ≡ None
  IsDueAt g (Acts d inner) r = IsDue g inner r
  IsDueAt g (Meets e w f) r = IsInside f × MeetsAtWord e g w r

  -- All processors, from a number on, are about to do what their stages tell, at their nodes.
  abbrev pub AllDue : (number : ℕ) → List Stage → List (Runner Position) → Type 0
  AllDue number [] [] = Unit {0}
  AllDue number (x ∷ stages) (r ∷ rs) = (r.has.number ≡ number) × IsDueAt (tree.places number) x r
      × AllDue (suc number) stages rs
  AllDue number stages rs = ⊥

-- Processors with their heaps.
abbrev pub owners_of : (heaps : ℕ → Heaps) → List (Runner Position) → List Owner
owners_of heaps rs =
    map (λ r. let p : Owner = record { runner = r; heap = heaps r.has.number } in p) rs

-- Where the plan of a state binds all harts, and each processor is about to do what its stage
-- tells, those who commit may be in a round together.
abbrev pub RoundsAreAllowed : Type 0
RoundsAreAllowed =
    (core : List CoreOp) (image : Image) (places : Places) (nestings : Nestings) (setting : Setting)
    (p : ℕ) (spaces : ℕ → Space) (t : MachineSetting)
    (stages : List Stage) (hs : List Hart) (own : ℕ → Memory) (heaps : ℕ → Heaps)
    (s : State Position)
    → let plan = plan_of s.tree spaces (nodes_of s.tree s.runners) in
    let blocks = blocks_of core image places nestings setting plan (first_of spaces) in
    HaveSpaces s.tree spaces → IsSound p s.tree → length s.runners ≡ p
    → AllDue core s.tree spaces 0 stages s.runners
    → IsBound (core_source core setting) image plan blocks t stages hs
    (owners_of heaps s.runners) own
    → is_allowed (next core) setting (counts_for stages) s ≡ true
