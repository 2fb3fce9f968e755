-- A hart that has committed comes to the stage of its next operation, if private instructions lead
-- it to where its processor goes on.
use Rattle.std.specs.Prelude.{◌≡◌, ℕ, ◌≤◌, ◌<◌, List, [], ◌∷◌, true, false, Some, None, is_some}
use Rattle.fk_num.specs.Word.{Memory}
use Rattle.fk_space.specs.Space.{Space}
use Rattle.fk_tree.specs.declared.node.Kind.TheVariants.{Lockstep}
use Rattle.fk_tree.specs.Tree as trees
use Rattle.fk_tree.specs.Tree.{Tree}
use Rattle.fk_meaning.specs.Processor.{Setting}
use Rattle.fk_core.specs.declared.op.CoreOp.{CoreOp}
use Rattle.fk_image.specs.declared.Image.{Image}
use Rattle.fk_machine.specs.Hart.{Hart, Setting as MachineSetting}
use Rattle.fk_sim_nodes.specs.Node.{Member}
use Rattle.fk_sim_nodes.specs.Alone.{RunsPrivately, NodeRun, later, in_cycles}
use Rattle.fk_sim_nodes.specs.Together.{Together}
use Rattle.fk_sim_nodes.specs.Phase.{Coming}
use Rattle.fk_sim_match.specs.Stage.{Ending, Commits, Unites, Stage, Ended, Acts, Meets}
use Rattle.fk_sim_match.specs.Plan.{StandsAt}
use Rattle.fk_sim_match.specs.Change.{IsFresh}
use Rattle.fk_sim_block.specs.Owner.{Owner, number_of, core_source}
use Rattle.fk_sim_block.specs.Stands as law
use Rattle.fk_sim_block.specs.Stands.{Places}
use Rattle.fk_sim_block.specs.Block.{most_behind, IsRunning}
use Rattle.fk_sim_block.specs.Node.{Nestings, StandsInNode, IsAtRest}
use Rattle.fk_sim_block.specs.Lockstep.{AreMembers}
use Rattle.fk_sim_block.specs.Law.{Cycles, GroupLaw}
use Rattle.fk_sim_match.specs.Nodes.{first_of, HaveSpaces, is_lockstep, plan_of}
use Rattle.fk_sim_match.specs.Behind.{runs_of, blocks_of}
use Rattle.fk_sim_match.specs.Rounds.{IsDueAt}
use Rattle.fk_sim_rounds.specs.Next.{JumpsLead, landed, all_landed, HasRange, IsHome, HasNext}
use Rattle.fk_sim_rounds.specs.Next.{HaveNext}

-- The most cycles from one commit to the next: those after the first, a jump, and those before the
-- second. A pace of 256 rounds leaves room for no more.
abbrev pub most_between : ℕ
most_between = 254

-- The most cycles from a commit to the arrival at a word. After that a hart polls, finds all there
-- and leaves, in three cycles at most. One that unites with the others commits up to 40 cycles
-- later (`most_united`).
abbrev pub most_to_word : Ending → ℕ
most_to_word Commits = 251
most_to_word Unites = 211

-- A hart that has just committed is this near to its next commit, or to the word where it meets
-- others.
abbrev pub IsSoon : Stage → Type 0
IsSoon Ended = Unit {0}
IsSoon (Acts d inner) = d ≤ most_between
IsSoon (Meets e w (Coming d)) = d ≤ most_to_word e
IsSoon s = ⊥

-- All numbers are those of processors.
abbrev pub AllBelow : (processors : ℕ) → List Owner → Type 0
AllBelow n [] = Unit {0}
AllBelow n (p ∷ ps) = (number_of p < n) × AllBelow n ps

-- All processors have spaces of these words.
abbrev pub AllHave : (whole : Space) → List Owner → Type 0
AllHave whole [] = Unit {0}
AllHave whole (p ∷ ps) = HasRange whole p.runner.has.level.space × AllHave whole ps

-- A node is a group in lockstep, and these of its members have its space.
pub record IsGroup (tree : Tree) (spaces : ℕ → Space) (g : ℕ) (ps : List Owner) : Type 0 where
  pub kind : trees.kind tree g ≡ Some Lockstep
  pub space : AllHave (spaces g) ps

-- The node is in the tree, whose nodes own words apart.
pub record IsNode (tree : Tree) (spaces : ℕ → Space) (g : ℕ) : Type 0 where
  pub spaced : HaveSpaces tree spaces
  pub there : is_some (tree.nodes g) ≡ true
  pub given : g < tree.given

module _ (core : List CoreOp) (image : Image) (places : Places) (nestings : Nestings)
    (setting : Setting) (tree : Tree) (spaces : ℕ → Space) (nodes : List ℕ) where
  -- A member of a node is at a stage, fresh from its commit, and its processor is about to do what
  -- that stage tells.
  pub record ComesTo (t : MachineSetting) (g : ℕ) (m : Member) (p : Owner) : Type 0 where
    pub stage : Stage
    pub fresh : IsFresh t stage
    pub stands : StandsAt (core_source core setting) image (plan_of tree spaces nodes)
        (blocks_of core image places nestings setting (plan_of tree spaces nodes)
        (first_of spaces)) t g stage m p
    pub due : IsDueAt core tree spaces g stage p.runner
    pub soon : IsSoon stage

  -- Members of a node are at a distance from their common commit.
  pub record ComeTo (t : MachineSetting) (g : ℕ) (ms : List Member) (ps : List Owner)
      (own : Memory) : Type 0 where
    pub distance : ℕ
    pub soon : distance ≤ most_between
    pub together : Together (core_source core setting) image
        ((plan_of tree spaces nodes).words g) t 1 distance ms ps own
        ((blocks_of core image places nestings setting (plan_of tree spaces nodes)
        (first_of spaces)).AfterAll (later (in_cycles distance t)) g)

-- A member by itself comes to a stage, if b private instructions lead it to where its processor
-- goes on, perhaps at a jump.
abbrev pub MembersComeToStages : Type 0
MembersComeToStages =
    (core : List CoreOp) (image : Image) (places : Places) (nestings : Nestings) (cycles : Cycles)
    (firsts : List ℕ) (main : ℕ) (setting : Setting) (tree : Tree)
    (spaces : ℕ → Space) (nodes : List ℕ) (t : MachineSetting) (b : ℕ) (m : Member)
    (hart : Hart) (p : Owner)
    → let g = tree.places m.number in
    GroupLaw core image places nestings cycles firsts main → JumpsLead core → IsNode tree spaces g
    → is_lockstep (trees.kind tree g) ≡ false
    → IsRunning image setting t → m.number < setting.processors
    → b ≤ most_behind → RunsPrivately image t m.number b m.hart hart → law.StandsAt places p hart
    → StandsInNode places nestings setting
    (runs_of (plan_of tree spaces nodes) (first_of spaces g) m.number) p hart
    → IsHome tree spaces m.number p → HasNext core nestings setting tree m.number (landed core p)
    → ComesTo core image places nestings setting tree spaces nodes t g m (landed core p)

-- A group in lockstep comes to its next commit, if a run of its node leads the members to where
-- their processors go on, and leaves the arrival words 0.
abbrev pub GroupsComeToCommits : Type 0
GroupsComeToCommits =
    (core : List CoreOp) (image : Image) (places : Places) (nestings : Nestings) (cycles : Cycles)
    (firsts : List ℕ) (main : ℕ) (setting : Setting) (tree : Tree)
    (spaces : ℕ → Space) (nodes : List ℕ) (t : MachineSetting) (b g : ℕ) (ms : List Member)
    (ps : List Owner) (own : Memory)
    → GroupLaw core image places nestings cycles firsts main → JumpsLead core → IsNode tree spaces g
    → IsGroup tree spaces g ps
    → IsRunning image setting t → AllBelow setting.processors ps → b ≤ most_behind
    → NodeRun image ((plan_of tree spaces nodes).words g) t b ms own
    (λ ms' own'. IsAtRest (first_of spaces g) own'
    × AreMembers places nestings setting (λ p. None) (first_of spaces g) ms' ps)
    → HaveNext core nestings ps
    → ComeTo core image places nestings setting tree spaces nodes t g ms (all_landed core ps) own
