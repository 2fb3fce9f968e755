-- From one cycle of the machine to the next.
use Rattle.std.specs.Prelude.{◌≡◌, ℕ, ◌^◌, ◌<◌, List, length, ◌⊎◌}
use Rattle.fk_num.specs.Word.{Memory}
use Rattle.fk_space.specs.Space.{Space}
use Rattle.fk_tree.specs.Tree.{Tree}
use Rattle.fk_meaning.specs.Processor.{Setting}
use Rattle.fk_core.specs.declared.op.CoreOp.{CoreOp}
use Rattle.fk_image.specs.declared.Image.{Image}
use Rattle.fk_machine.specs.Hart.{Hart, Shared, Setting as MachineSetting}
use Rattle.fk_machine.specs.Cycle.{turns}
use Rattle.fk_sim_nodes.specs.Node.{Has}
use Rattle.fk_sim_nodes.specs.Source.{Shows}
use Rattle.fk_sim_nodes.specs.Whole.{planned, IsWhole, IsCut}
use Rattle.fk_sim_match.specs.Stage.{Stage, counts_for}
use Rattle.fk_sim_match.specs.Plan.{IsBound}
use Rattle.fk_sim_match.specs.Cycle.{DoneIn, IsLeft}
use Rattle.fk_sim_block.specs.Owner.{Commons, Owner, core_source}
use Rattle.fk_sim_block.specs.Stands.{Places}
use Rattle.fk_sim_block.specs.Node.{Nestings}
use Rattle.fk_sim_block.specs.Law.{Cycles, GroupLaw}
use Rattle.fk_sim_match.specs.Nodes.{first_of, plan_of}
use Rattle.fk_sim_match.specs.Behind.{blocks_of, joining_blocks_of}
use Rattle.fk_sim_match.specs.Uniting.{NobodyUnites}
use Rattle.fk_sim_rounds.specs.Next.{JumpsLead, all_landed}
use Rattle.fk_sim_rounds.specs.After.{tree_after, owners_after, ArePlaces, AllGoOn, GroupsGoOn}
use Rattle.fk_sim_rounds.specs.Rounds.{IsBefore, IsTree, IsKnownRound, AreBoundAgain}

module _ (core : List CoreOp) (image : Image) (places : Places) (nestings : Nestings)
    (setting : Setting) (tree : Tree) (spaces : ℕ → Space) (nodes : List ℕ) (t : MachineSetting)
    (earlier : List ℕ)
    (stages : List Stage) (hs : List Hart) (ps : List Owner) (own : ℕ → Memory) (sh : Shared)
    (s : Commons) where
  -- The cycle is a whole round. If it is a known round, and its processors go on, the plan of the
  -- next tree binds all harts again.
  pub record IsWholeRound : Type 0 where
    pub whole : IsWhole (core_source core setting) image (plan_of tree spaces nodes).words
        (DoneIn (core_source core setting) image (plan_of tree spaces nodes)
        (joining_blocks_of core image places nestings setting (plan_of tree spaces nodes)
        (first_of spaces)) t stages ps own) earlier 0
        nodes hs ps s (turns t 0 hs sh)
    pub left : IsLeft (core_source core setting) image (plan_of tree spaces nodes)
        (blocks_of core image places nestings setting (plan_of tree spaces nodes) (first_of spaces))
        t stages (turns t 0 hs sh).harts ps whole.did own whole.own
    pub again : (nodes' : List ℕ) → IsKnownRound tree whole.did
        → IsTree setting (tree_after tree whole.did) spaces
        → ArePlaces (tree_after tree whole.did) 0 nodes' → length nodes' ≡ length nodes
        → AllGoOn core nestings setting (tree_after tree whole.did) spaces 0 left.afters whole.did
        (owners_after tree (tree_after tree whole.did) whole.did)
        → GroupsGoOn core nestings (tree_after tree whole.did) nodes' left.afters
        (owners_after tree (tree_after tree whole.did) whole.did)
        → AreBoundAgain core image places nestings setting (plan_of tree spaces nodes)
        (tree_after tree whole.did) spaces nodes' t stages (turns t 0 hs sh).harts left.afters ps
        (all_landed core (owners_after tree (tree_after tree whole.did) whole.did)) own
        (turns t 0 hs sh).shared.control

-- Where the plan binds all harts before a cycle in which none of them unites with others, the cycle
-- is a round of the counts that the stages tell: a whole one, or one up to its first fault.
abbrev pub CyclesBindAgain : Type 0
CyclesBindAgain =
    (core : List CoreOp) (image : Image) (places : Places) (nestings : Nestings) (cycles : Cycles)
    (firsts : List ℕ) (main : ℕ) (setting : Setting) (tree : Tree)
    (spaces : ℕ → Space) (nodes : List ℕ) (t : MachineSetting)
    (earlier : List ℕ) (stages : List Stage) (hs : List Hart) (ps : List Owner) (own : ℕ → Memory)
    (sh : Shared) (s : Commons)
    → GroupLaw core image places nestings cycles firsts main → JumpsLead core
    → IsBefore core image setting tree spaces nodes t stages hs ps
    → length hs < 2 ^ 31 → Shows (core_source core setting) earlier sh s
    → ((g : ℕ) → Has ((plan_of tree spaces nodes).words g) sh.control (own g))
    → IsBound (core_source core setting) image (plan_of tree spaces nodes)
    (blocks_of core image places nestings setting (plan_of tree spaces nodes) (first_of spaces)) t
    stages hs ps own
    → NobodyUnites stages
    → (planned image hs ≡ counts_for stages)
    × (IsWholeRound core image places nestings setting tree spaces nodes t earlier
    stages hs ps own sh s
    ⊎ IsCut (core_source core setting) image (plan_of tree spaces nodes).words earlier 0 hs ps s
    (turns t 0 hs sh))
