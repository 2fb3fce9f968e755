-- The cycle in which the last of all processors leaves the word where they meet at the
-- beginning of `start`.
use Rattle.std.specs.Prelude.{◌≡◌, ℕ, ◌^◌, ◌<◌, List, [], ◌∷◌, length, map, true}
use Rattle.fk_num.specs.Word.{Memory}
use Rattle.fk_space.specs.Space.{Space}
use Rattle.fk_tree.specs.Tree.{Tree}
use Rattle.fk_meaning_operation.specs.declared.operation.Operation.TheVariants.{Begin}
use Rattle.fk_meaning.specs.Processor.{Setting}
use Rattle.fk_core.specs.declared.op.CoreOp.{CoreOp}
use Rattle.fk_image.specs.declared.Image.{Image}
use Rattle.fk_machine.specs.Hart.{Hart, Shared, Setting as MachineSetting}
use Rattle.fk_machine.specs.Cycle.{turns}
use Rattle.fk_sim_nodes.specs.Node.{numbered, Has}
use Rattle.fk_sim_nodes.specs.Source.{Shows}
use Rattle.fk_sim_nodes.specs.Alone.{later}
use Rattle.fk_sim_nodes.specs.Whole.{planned, IsWhole}
use Rattle.fk_sim_match.specs.Stage.{Stage, counts_for, AllNear}
use Rattle.fk_sim_match.specs.Plan.{IsBound}
use Rattle.fk_sim_match.specs.Cycle.{DoneIn}
use Rattle.fk_sim_block.specs.Owner.{Commons, Owner, idle, core_source}
use Rattle.fk_sim_block.specs.Stands.{Places}
use Rattle.fk_sim_block.specs.Next.{OpAt}
use Rattle.fk_sim_block.specs.Node.{Nestings}
use Rattle.fk_sim_block.specs.Start.{most_united, IsInRoot}
use Rattle.fk_sim_block.specs.Law.{Cycles, GroupLaw}
use Rattle.fk_sim_match.specs.Nodes.{first_of, plan_of, united}
use Rattle.fk_sim_match.specs.Behind.{blocks_of, joining_blocks_of}
use Rattle.fk_sim_match.specs.Uniting.{unites_now, SomebodyUnites}
use Rattle.fk_sim_match.specs.Standing.{all_act}
use Rattle.fk_sim_rounds.specs.Next.{AllAt, AllAbout}
use Rattle.fk_sim_rounds.specs.Rounds.{IsBefore}
use Rattle.fk_sim_rounds.specs.Start.{IsBeforeStart}

-- All harts leave the word where they unite.
abbrev pub AllUnite : List Stage → Type 0
AllUnite [] = Unit {0}
AllUnite (s ∷ stages) = (unites_now s ≡ true) × AllUnite stages

-- All processors are in the root, whose group space is whole.
abbrev pub AreInRoot : Nestings → Setting → List Owner → Type 0
AreInRoot nestings setting [] = Unit {0}
AreInRoot nestings setting (p ∷ ps) = IsInRoot nestings setting p × AreInRoot nestings setting ps

module _ (core : List CoreOp) (image : Image) (places : Places) (nestings : Nestings)
    (setting : Setting) (tree : Tree) (spaces : ℕ → Space) (nodes : List ℕ) (t : MachineSetting)
    (earlier : List ℕ)
    (stages : List Stage) (hs : List Hart) (ps : List Owner) (own : ℕ → Memory) (sh : Shared)
    (s : Commons) where
  -- After the cycle all processors are about to begin the group of `start`, at one index, and are
  -- in lockstep, at this distance from their commit.
  pub record AreInLockstep (i : ℕ) : Type 0 where
    pub op : CoreOp
    pub stands : OpAt core i op Begin
    pub about : AllAbout i op Begin ps
    pub distance : ℕ
    pub few : distance < most_united
    pub bound : IsBound (core_source core setting) image (united (plan_of tree spaces nodes))
        (blocks_of core image places nestings setting (united (plan_of tree spaces nodes))
        (first_of spaces))
        (later t) (all_act distance (numbered 0 (turns t 0 hs sh).harts))
        (turns t 0 hs sh).harts ps (λ g. (turns t 0 hs sh).shared.control)
    pub near : AllNear stages (all_act distance (numbered 0 (turns t 0 hs sh).harts))

  -- The cycle is a whole round, nobody is in it, and all are in the root.
  pub record AreUnited : Type 0 where
    pub whole : IsWhole (core_source core setting) image (plan_of tree spaces nodes).words
        (DoneIn (core_source core setting) image (plan_of tree spaces nodes)
        (joining_blocks_of core image places nestings setting (plan_of tree spaces nodes)
        (first_of spaces)) t stages ps own) earlier 0
        nodes hs ps s (turns t 0 hs sh)
    pub idle : whole.did ≡ map idle ps
    pub all : AllUnite stages
    pub before : IsBeforeStart image setting tree spaces nodes (later t) (turns t 0 hs sh).harts ps
    pub roots : AreInRoot nestings setting ps
    pub together : (i : ℕ) → AllAt i ps → AreInLockstep i

-- Where the plan binds all harts before a cycle in which one of them unites with others, all do.
abbrev pub CyclesUnite : Type 0
CyclesUnite =
    (core : List CoreOp) (image : Image) (places : Places) (nestings : Nestings) (cycles : Cycles)
    (firsts : List ℕ) (main : ℕ) (setting : Setting) (tree : Tree)
    (spaces : ℕ → Space) (nodes : List ℕ) (t : MachineSetting)
    (earlier : List ℕ) (stages : List Stage) (hs : List Hart) (ps : List Owner) (own : ℕ → Memory)
    (sh : Shared) (s : Commons)
    → GroupLaw core image places nestings cycles firsts main
    → IsBefore core image setting tree spaces nodes t stages hs ps
    → length hs < 2 ^ 31 → Shows (core_source core setting) earlier sh s
    → ((g : ℕ) → Has ((plan_of tree spaces nodes).words g) sh.control (own g))
    → IsBound (core_source core setting) image (plan_of tree spaces nodes)
    (blocks_of core image places nestings setting (plan_of tree spaces nodes) (first_of spaces)) t
    stages hs ps own
    → SomebodyUnites stages
    → (planned image hs ≡ counts_for stages)
    × AreUnited core image places nestings setting tree spaces nodes t earlier stages hs ps own sh s
