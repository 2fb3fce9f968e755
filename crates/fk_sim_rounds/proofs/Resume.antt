-- Behind the round in which those of the root, back from the group of `start`, go on there, each is by itself.
use Rattle.std.proofs.Common.{◌≡◌, ℕ, zero, suc, ◌<◌, List, Option, Some, Bool, true, false, sym, ap, ◌∙◌, refl}
use Rattle.std.specs.Prelude.{is_some}
use Rattle.fk_num.specs.Word.{Memory}
use Rattle.fk_space.specs.Space.{Space}
use Rattle.fk_tree.specs.declared.node.Kind.TheVariants.{Waiting, Asynchronous}
use Rattle.fk_tree.specs.Tree as trees
use Rattle.fk_tree.specs.Tree.{Tree, kind_of, members_of, turned}
use Rattle.fk_tree.proofs.Shapes.{members-turned, kind-turned, some-given}
use Rattle.fk_meaning_operation.specs.declared.operation.Operation.{Operation}
use Rattle.fk_meaning_operation.specs.declared.operation.Operation.TheVariants.{Resume}
use Rattle.fk_meaning.specs.Processor.{Setting}
use Rattle.fk_core.specs.declared.op.CoreOp.{CoreOp}
use Rattle.fk_image.specs.declared.Image.{Image}
use Rattle.fk_machine.specs.Hart.{Hart, Setting as MachineSetting}
use Rattle.fk_sim_nodes.specs.Node.{of_node, Has}
use Rattle.fk_sim_nodes.specs.Alone.{later}
use Rattle.fk_sim_match.specs.Stage.{Stage}
use Rattle.fk_sim_match.specs.Plan.{Plan, IsOpen}
use Rattle.fk_sim_match.specs.Cycle.{IsLeft}
use Rattle.fk_sim_match.specs.Change.{MeetingStays}
use Rattle.fk_sim_block.specs.Owner.{Owner, Doing, core_source}
use Rattle.fk_sim_block.specs.Stands.{Places}
use Rattle.fk_sim_block.specs.Node.{Nestings}
use Rattle.fk_sim_block.specs.Law.{Cycles, GroupLaw}
use Rattle.fk_sim_match.specs.Nodes.{first_of, is_lockstep, body_at, meeters_at, plan_of}
use Rattle.fk_sim_match.specs.Behind.{runs_of, blocks_of}
use Rattle.fk_sim_match.proofs.Rounds.{not_none}
use Rattle.fk_sim_rounds.specs.Next.{JumpsLead}
use Rattle.fk_lockstep_nodes.specs.Steps.{StepsBy}
use Rattle.fk_sim_rounds.specs.After.{actings, owners_after, AllGoOn, GroupsGoOn}
use Rattle.fk_sim_rounds.specs.Rounds.{IsBefore, IsTree}
use Rattle.fk_sim_rounds.proofs.Same.{SameWords, runs_same, opened_before, member_still, size_still}
use Rattle.fk_sim_rounds.proofs.Harts.{LockLeft, steps_alone}
use Rattle.fk_sim_rounds.proofs.Changed.{Nothing, running, At, near, AtNode}
use Rattle.fk_sim_rounds.proofs.Moved.{kind_there, is_busy, TreeMoves}

module _ (core : List CoreOp) (image : Image) (places : Places) (nestings : Nestings) (cycles : Cycles) (firsts : List ℕ) (main : ℕ) (setting : Setting) (old new : Tree) (spaces : ℕ → Space) (nodes nodes' : List ℕ)
    (t : MachineSetting) (stages : List Stage) (hs : List Hart) (ps : List Owner) (ds : List Doing) (own own' : ℕ → Memory) (control : Memory)
    (the_law : GroupLaw core image places nestings cycles firsts main) (leads : JumpsLead core) (before : IsBefore core image setting old spaces nodes t stages hs ps)
    (left : IsLeft (core_source core setting) image (plan_of old spaces nodes) (blocks_of core image places nestings setting (plan_of old spaces nodes) (first_of spaces)) t stages hs ps ds own own')
    (has : (g : ℕ) → Has ((plan_of old spaces nodes).words g) control (own' g)) (behind : IsTree setting new spaces)
    (does : ℕ → Option Operation) (steps : StepsBy old does 0 (actings ds)) (changed : ℕ → Bool) (move : TreeMoves old new setting.processors does nodes nodes' changed)
    (on : AllGoOn core nestings setting new spaces 0 left.afters ds (owners_after old new ds)) (next : GroupsGoOn core nestings new nodes' left.afters (owners_after old new ds))
    (first parts : ℕ) (kind : trees.kind old 0 ≡ Some (Waiting first parts)) (turns : new.nodes 0 ≡ turned (Asynchronous false) (old.nodes 0))
    (stay : (h : ℕ) → h < setting.processors → old.places h ≡ 0 → new.places h ≡ 0) where
  abbrev plan : Plan
  plan = plan_of old spaces nodes

  abbrev plan' : Plan
  plan' = plan_of new spaces nodes'

  there : is_some (old.nodes 0) ≡ true
  there = kind_there (old.nodes 0) (Waiting first parts) kind

  kind' : trees.kind new 0 ≡ Some (Asynchronous false)
  kind' = ap kind_of turns ∙ kind-turned (Asynchronous false) (old.nodes 0) (not_none (old.nodes 0) there)

  there' : is_some (new.nodes 0) ≡ true
  there' = kind_there (new.nodes 0) (Asynchronous false) kind'

  members : trees.members new 0 ≡ trees.members old 0
  members = ap members_of turns ∙ members-turned (Asynchronous false) (old.nodes 0)

  meet : (offset : ℕ) → meeters_at new 0 offset ≡ meeters_at old 0 offset
  meet zero = ap (λ k. body_at k 0 (trees.members new 0)) kind' ∙ members ∙ sym (ap (λ k. body_at k 0 (trees.members old 0)) kind)
  meet (suc zero) = members
  meet (suc (suc o)) = refl

  words : SameWords old new spaces 0
  words = record {
    spaced = before.spaced;
    spaced' = behind.spaced;
    there = there;
    there' = there';
    given = some-given setting.processors old before.sound 0 (not_none (old.nodes 0) there);
    given' = some-given setting.processors new behind.sound 0 (not_none (new.nodes 0) there');
    meet = meet;
  }

  pub free : plan.in_lockstep 0 ≡ false
  free = ap is_lockstep kind

  pub free' : plan'.in_lockstep 0 ≡ false
  free' = ap is_lockstep kind'

  module _ (at_changed : (k : ℕ) → changed k ≡ true → plan'.in_lockstep k ≡ true
      → At core image places nestings cycles firsts main setting old new spaces nodes nodes' t stages hs ps ds own own' control the_law leads before left has behind.sound behind.spaced does steps changed move on next k)
      (lock_changed : (k : ℕ) → changed k ≡ true → plan.in_lockstep k ≡ true → LockLeft (of_node k nodes left.afters) (of_node k nodes ps) (of_node k nodes ds)) where
    pub resumes_each : AtNode core image places nestings cycles firsts main setting old new spaces nodes nodes' t stages hs ps ds own own' control the_law leads before left has behind.sound
        behind.spaced does steps changed move on next at_changed lock_changed 0 Resume Nothing
    resumes_each m p d known lt land home s0 a lock alone due remains on' =
        let now = stay m.number lt known.0 in
        steps_alone core image places nestings cycles firsts main setting old new spaces nodes nodes' the_law leads behind.spaced behind.sound (later t)
        (running core image places nestings cycles firsts main setting old new spaces nodes nodes' t stages hs ps ds own own' control the_law leads before left has behind.sound behind.spaced
        does steps changed move on next)
        (actings ds)
        (λ g. (near core image places nestings cycles firsts main setting old new spaces nodes nodes' t stages hs ps ds own own' control the_law leads before left has behind.sound behind.spaced
        does steps changed move on next at_changed lock_changed g).distance)
        (λ g. (near core image places nestings cycles firsts main setting old new spaces nodes nodes' t stages hs ps ds own own' control the_law leads before left has behind.sound behind.spaced
        does steps changed move on next at_changed lock_changed g).soon)
        m p d lt home (is_busy Resume d p known.1) a (ap (λ k. plan'.in_lockstep k) now ∙ free')
        (ap (λ k. runs_of (plan_of old spaces nodes) (first_of spaces k) m.number) known.0 ∙ runs_same old new spaces nodes nodes' 0 words m.number
        ∙ ap (λ k. runs_of (plan_of new spaces nodes') (first_of spaces k) m.number) (sym now))
        (alone (ap (λ k. plan.in_lockstep k) known.0 ∙ free)) on'

  pub resumed_stays : (w : ℕ) → IsOpen plan' 0 w
      → MeetingStays (core_source core setting) image plan (blocks_of core image places nestings setting (plan_of old spaces nodes) (first_of spaces)) plan'
      (blocks_of core image places nestings setting (plan_of new spaces nodes') (first_of spaces)) 0 w
  resumed_stays w is_open =
      let was = opened_before old new spaces nodes nodes' 0 words w is_open in
      record {
        alone = free;
        was = was;
        size = sym (size_still old new spaces nodes nodes' 0 words w is_open);
        same = λ number. member_still old new spaces nodes nodes' 0 words w number was;
      }
