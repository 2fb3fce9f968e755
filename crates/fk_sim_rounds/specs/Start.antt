-- The round in which the group of `start` begins.
use Rattle.std.specs.Prelude.{◌≡◌, ℕ, ◌^◌, ◌<◌, List, length, map, Bool, Option, Some, ◌⊎◌}
use Rattle.fk_num.specs.Word.{Memory}
use Rattle.fk_space.specs.Space.{Space}
use Rattle.fk_tree.specs.declared.node.Kind.TheVariants.{Asynchronous}
use Rattle.fk_tree.specs.Tree as trees
use Rattle.fk_tree.specs.Tree.{Tree}
use Rattle.fk_tree.specs.Sound.{IsSound}
use Rattle.fk_meaning_operation.specs.declared.operation.Operation.TheVariants.{Begin}
use Rattle.fk_meaning.specs.Processor.{Setting}
use Rattle.fk_core.specs.declared.op.CoreOp.{CoreOp}
use Rattle.fk_image.specs.declared.Image.{Image}
use Rattle.fk_machine.specs.Hart.{Hart, Shared, Setting as MachineSetting}
use Rattle.fk_machine.specs.Cycle.{turns}
use Rattle.fk_sim_nodes.specs.Node.{AreAsMany, Has}
use Rattle.fk_sim_nodes.specs.Source.{Shows}
use Rattle.fk_sim_nodes.specs.Alone.{later}
use Rattle.fk_sim_nodes.specs.Whole.{planned, IsWhole, IsCut}
use Rattle.fk_sim_match.specs.Stage.{Stage, counts_for, AllNear, kept}
use Rattle.fk_sim_match.specs.Plan.{IsBound}
use Rattle.fk_sim_match.specs.Cycle.{AllHaveCommitted, DoneIn, IsLeft}
use Rattle.fk_sim_block.specs.Owner.{Commons, Owner, Doing, idle, core_source}
use Rattle.fk_sim_block.specs.Stands.{Places}
use Rattle.fk_sim_block.specs.Block.{IsRunning}
use Rattle.fk_sim_block.specs.Node.{Nestings, IsAtRest}
use Rattle.fk_sim_block.specs.Law.{Cycles, GroupLaw}
use Rattle.fk_sim_match.specs.Nodes.{first_of, HaveSpaces, plan_of, united}
use Rattle.fk_sim_match.specs.Behind.{blocks_of, joining_blocks_of}
use Rattle.fk_sim_rounds.specs.Next.{JumpsLead, all_landed}
use Rattle.fk_sim_rounds.specs.After.{tree_after, owners_after, StepsAt, ArePlaces, AllGoOn}
use Rattle.fk_sim_rounds.specs.After.{GroupsGoOn}
use Rattle.fk_sim_rounds.specs.Rounds.{IsTree, AreBoundAgain}

-- Before the round all processors are in the root, where each has run by itself.
pub record IsBeforeStart (image : Image) (setting : Setting) (tree : Tree) (spaces : ℕ → Space)
    (nodes : List ℕ) (t : MachineSetting) (hs : List Hart) (ps : List Owner) : Type 0 where
  pub running : IsRunning image setting t
  pub sound : IsSound setting.processors tree
  pub spaced : HaveSpaces tree spaces
  pub stand : ArePlaces tree 0 nodes
  pub many : length nodes ≡ setting.processors
  pub as_many : AreAsMany nodes hs ps
  pub alone : Bool
  pub kind : trees.kind tree 0 ≡ Some (Asynchronous alone)
  pub in_root : (h : ℕ) → h < setting.processors → tree.places h ≡ 0

-- Those who have met in the root are in lockstep. Where the plan binds them so before a cycle that
-- is a whole round, either nobody is in it, and they are one cycle nearer to their commit, at the
-- stages that the cycle has left; or all are in it.
module _ (core : List CoreOp) (image : Image) (places : Places) (nestings : Nestings)
    (setting : Setting) (tree : Tree) (spaces : ℕ → Space) (nodes : List ℕ) (t : MachineSetting)
    (earlier : List ℕ)
    (stages : List Stage) (hs : List Hart) (ps : List Owner) (own : ℕ → Memory) (sh : Shared)
    (s : Commons) where
  pub record ComeNearer (did : List Doing) (afters : List (Option Stage)) : Type 0 where
    pub stages' : List Stage
    pub are : afters ≡ kept stages'
    pub idle : did ≡ map idle ps
    pub bound : IsBound (core_source core setting) image (united (plan_of tree spaces nodes))
        (blocks_of core image places nestings setting (united (plan_of tree spaces nodes))
        (first_of spaces))
        (later t) stages' (turns t 0 hs sh).harts ps (λ g. (turns t 0 hs sh).shared.control)
    pub near : AllNear stages stages'

  pub record IsStartRound : Type 0 where
    pub whole : IsWhole (core_source core setting) image (plan_of tree spaces nodes).words
        (DoneIn (core_source core setting) image (united (plan_of tree spaces nodes))
        (joining_blocks_of core image places nestings setting (united (plan_of tree spaces nodes))
        (first_of spaces)) t stages ps own)
        earlier 0 nodes hs ps s (turns t 0 hs sh)
    pub left : IsLeft (core_source core setting) image (united (plan_of tree spaces nodes))
        (blocks_of core image places nestings setting (united (plan_of tree spaces nodes))
        (first_of spaces)) t stages (turns t 0 hs sh).harts ps whole.did own whole.own
    pub goes : ComeNearer whole.did left.afters ⊎ AllHaveCommitted left.afters

abbrev pub CyclesComeToStart : Type 0
CyclesComeToStart =
    (core : List CoreOp) (image : Image) (places : Places) (nestings : Nestings) (setting : Setting)
    (tree : Tree) (spaces : ℕ → Space) (nodes : List ℕ) (t : MachineSetting) (earlier : List ℕ)
    (stages : List Stage) (hs : List Hart) (ps : List Owner) (own : ℕ → Memory)
    (sh : Shared) (s : Commons)
    → IsBeforeStart image setting tree spaces nodes t hs ps
    → length hs < 2 ^ 31 → Shows (core_source core setting) earlier sh s
    → ((g : ℕ) → Has ((plan_of tree spaces nodes).words g) sh.control (own g))
    → IsBound (core_source core setting) image (united (plan_of tree spaces nodes))
    (blocks_of core image places nestings setting (united (plan_of tree spaces nodes))
    (first_of spaces)) t stages hs ps own
    → (planned image hs ≡ counts_for stages)
    × (IsStartRound core image places nestings setting tree spaces nodes t earlier
    stages hs ps own sh s
    ⊎ IsCut (core_source core setting) image (plan_of tree spaces nodes).words earlier 0 hs ps s
    (turns t 0 hs sh))

-- Those who have met in the root are in lockstep until all commit. After that some are a group, at
-- whose words nobody has arrived, and the others wait in the root.
abbrev pub RoundsStart : Type 0
RoundsStart =
    (core : List CoreOp) (image : Image) (places : Places) (nestings : Nestings) (cycles : Cycles)
    (firsts : List ℕ) (main : ℕ) (setting : Setting) (tree : Tree)
    (spaces : ℕ → Space) (nodes nodes' : List ℕ) (t : MachineSetting) (stages : List Stage)
    (before hs : List Hart) (ps : List Owner) (ds : List Doing) (own own' : ℕ → Memory)
    (control : Memory)
    → let plan = united (plan_of tree spaces nodes) in
    let blocks = blocks_of core image places nestings setting plan (first_of spaces) in
    let next = tree_after tree ds in
    let qs = owners_after tree next ds in
    GroupLaw core image places nestings cycles firsts main → JumpsLead core
    → IsBeforeStart image setting tree spaces nodes t hs ps
    → length before < 2 ^ 31
    → IsBound (core_source core setting) image plan blocks t stages before ps own
    → (left : IsLeft (core_source core setting) image plan blocks t stages hs ps ds own own')
    → ((k : ℕ) → Has (plan.words k) control (own' k))
    → StepsAt tree 0 0 Begin ds → IsAtRest (first_of spaces tree.given) control
    → IsTree setting next spaces → ArePlaces next 0 nodes' → length nodes' ≡ length nodes
    → AllGoOn core nestings setting next spaces 0 left.afters ds qs
    → GroupsGoOn core nestings next nodes' left.afters qs
    → AreBoundAgain core image places nestings setting plan next spaces nodes' t stages hs
    left.afters ps (all_landed core qs) own control
