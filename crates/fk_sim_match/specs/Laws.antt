-- Laws of the plan of a tree.
use Rattle.std.specs.Prelude.{◌≡◌, ◌≢◌, ℕ, ◌+◌, ◌<◌, ◌==◌, List, length, true, false, None, is_some}
use Rattle.fk_num.specs.Word.{Memory}
use Rattle.fk_space.specs.Space.{Space}
use Rattle.fk_tree.specs.Tree.{Tree, is_member}
use Rattle.fk_meaning.specs.Processor.{Setting}
use Rattle.fk_core.specs.declared.op.CoreOp.{CoreOp}
use Rattle.fk_image.specs.declared.Image.{Image}
use Rattle.fk_machine.specs.Hart.{Hart, Shared, Setting as MachineSetting}
use Rattle.fk_machine.specs.Cycle.{turns}
use Rattle.fk_sim_nodes.specs.Node.{Has, OwnApart}
use Rattle.fk_sim_nodes.specs.Source.{Shows}
use Rattle.fk_sim_match.specs.Stage.{Stage}
use Rattle.fk_sim_match.specs.Plan.{Plan, JointBlocksTurn, IsBound}
use Rattle.fk_sim_match.specs.Cycle.{IsPlanned}
use Rattle.fk_sim_heap.specs.Count.{asked_word}
use Rattle.fk_sim_block.specs.Owner.{Commons, Owner, core_source}
use Rattle.fk_sim_block.specs.Stands.{Places}
use Rattle.fk_sim_block.specs.Node.{Nestings}
use Rattle.fk_sim_match.specs.Nodes.{first_of, owns, HaveSpaces, meeters_at, is_arrival, plan_of}
use Rattle.fk_sim_match.specs.Behind.{blocks_of, joining_blocks_of}

abbrev pub NodesOwnApart : Type 0
NodesOwnApart = (tree : Tree) (spaces : ℕ → Space) → HaveSpaces tree spaces
    → OwnApart (owns tree spaces) (λ i. i == asked_word)

-- The plan tells, of a word in the header of a node, who meets there and how many they are.
pub record TellsMeeters (tree : Tree) (plan : Plan) (g offset word : ℕ) : Type 0 where
  pub own : plan.words g word ≡ true
  pub arrival : plan.arrivals word ≡ is_arrival offset
  pub size : plan.size word ≡ length (meeters_at tree g offset)
  pub member : (h : ℕ) → plan.member word h ≡ is_member h (meeters_at tree g offset)

abbrev pub WordsTellMeeters : Type 0
WordsTellMeeters =
    (tree : Tree) (spaces : ℕ → Space) (nodes : List ℕ) (g offset : ℕ) → HaveSpaces tree spaces
    → is_some (tree.nodes g) ≡ true → g < tree.given → offset < 8
    → TellsMeeters tree (plan_of tree spaces nodes) g offset (first_of spaces g + offset)

-- Members who meet turn as their phases do, whatever the plan.
abbrev pub MeetersTurn : Type 0
MeetersTurn =
    (core : List CoreOp) (image : Image) (places : Places) (nestings : Nestings) (setting : Setting)
    (plan : Plan) (first : ℕ → ℕ)
    → JointBlocksTurn (core_source core setting) image plan
    (joining_blocks_of core image places nestings setting plan first)

abbrev pub CyclesAreRounds : Type 0
CyclesAreRounds =
    (core : List CoreOp) (image : Image) (places : Places) (nestings : Nestings) (setting : Setting)
    (tree : Tree) (spaces : ℕ → Space) (nodes : List ℕ)
    (t : MachineSetting) (earlier : List ℕ) (stages : List Stage) (hs : List Hart) (ps : List Owner)
    (own : ℕ → Memory) (sh : Shared) (s : Commons)
    → let plan = plan_of tree spaces nodes in
    let blocks = blocks_of core image places nestings setting plan (first_of spaces) in
    HaveSpaces tree spaces → Shows (core_source core setting) earlier sh s
    → ((g : ℕ) → Has (plan.words g) sh.control (own g))
    → IsBound (core_source core setting) image plan blocks t stages hs ps own
    → IsPlanned (core_source core setting) image plan (joining_blocks_of core image places nestings
    setting plan (first_of spaces)) t earlier stages hs ps own sh s

-- A cycle without a fault leaves the control words that no node owns as they were, whatever the
-- plan, but for the word that counts the words asked for.
abbrev pub UnownedWordsStay : Type 0
UnownedWordsStay =
    (core : List CoreOp) (image : Image) (places : Places) (nestings : Nestings) (setting : Setting)
    (plan : Plan) (first : ℕ → ℕ)
    (t : MachineSetting) (earlier : List ℕ) (stages : List Stage) (hs : List Hart) (ps : List Owner)
    (own : ℕ → Memory) (sh : Shared) (s : Commons) (word : ℕ)
    → OwnApart plan.words (λ i. i == asked_word) → Shows (core_source core setting) earlier sh s
    → ((g : ℕ) → Has (plan.words g) sh.control (own g))
    → IsBound (core_source core setting) image plan
    (blocks_of core image places nestings setting plan first) t stages hs ps own
    → (turns t 0 hs sh).stop ≡ None → ((g : ℕ) → plan.words g word ≡ false) → word ≢ asked_word
    → (turns t 0 hs sh).shared.control word ≡ sh.control word
