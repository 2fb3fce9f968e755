-- A node behind a round, by whose words its members may meet from then on.
use Rattle.std.proofs.Common.{◌≡◌, ℕ, ◌+◌, ◌<◌, List, length, Option, true, false, sym, subst, ◌∙◌, arith}
use Rattle.std.specs.Prelude.{is_some}
use Rattle.fk_num.specs.Word.{Memory}
use Rattle.fk_space.specs.Space.{Space}
use Rattle.fk_tree.specs.Tree as trees
use Rattle.fk_tree.specs.Tree.{Tree, is_member}
use Rattle.fk_tree.specs.Sound.{is_ascending}
use Rattle.fk_tree.proofs.Shapes.{some-given}
use Rattle.fk_meaning.specs.Processor.{Setting}
use Rattle.fk_core.specs.declared.op.CoreOp.{CoreOp}
use Rattle.fk_image.specs.declared.Image.{Image}
use Rattle.fk_machine.specs.Hart.{Hart, Setting as MachineSetting}
use Rattle.fk_sim_nodes.specs.Node.{numbered, of_node, AreAsMany}
use Rattle.fk_sim_match.specs.Stage.{Stage}
use Rattle.fk_sim_match.specs.Plan.{Plan, Blocks, IsOpen}
use Rattle.fk_sim_match.specs.Cycle.{AllHaveCommitted}
use Rattle.fk_sim_match.specs.Change.{AllChange, MeetingOpens}
use Rattle.fk_sim_block.specs.Owner.{Owner, Doing, core_source}
use Rattle.fk_sim_block.specs.Stands.{Places}
use Rattle.fk_sim_block.specs.Node.{Nestings}
use Rattle.fk_sim_match.specs.Nodes.{first_of, is_arrival, meeters_at, plan_of}
use Rattle.fk_sim_match.specs.Behind.{blocks_of}
use Rattle.fk_sim_match.proofs.Nodes.{tells, open_at}
use Rattle.fk_sim_match.proofs.Rounds.{not_none}
use Rattle.fk_sim_rounds.specs.Rounds.{IsTree}
use Rattle.fk_sim_rounds.proofs.Counts.{count_is, phases_count, all_new, all_fine}

module _ (core : List CoreOp) (image : Image) (places : Places) (nestings : Nestings) (setting : Setting) (old new : Tree) (spaces : ℕ → Space) (nodes nodes' : List ℕ)
    (t : MachineSetting) (hs : List Hart) (afters : List (Option Stage)) (ps ps' : List Owner) (control : Memory) (behind : IsTree setting new spaces)
    (many : length nodes' ≡ setting.processors) (as_many : AreAsMany nodes' hs afters) where
  abbrev plan : Plan
  plan = plan_of old spaces nodes

  abbrev blocks : Blocks Owner Doing
  blocks = blocks_of core image places nestings setting (plan_of old spaces nodes) (first_of spaces)

  abbrev plan' : Plan
  plan' = plan_of new spaces nodes'

  abbrev blocks' : Blocks Owner Doing
  blocks' = blocks_of core image places nestings setting (plan_of new spaces nodes') (first_of spaces)

  -- all who stand in a node have just come to it, and nobody has arrived at its words
  module _ (g : ℕ) (there : is_some (new.nodes g) ≡ true) (free : plan'.in_lockstep g ≡ false) (gone : AllHaveCommitted (of_node g nodes' afters))
      (zero : (offset : ℕ) → offset < 8 → is_arrival offset ≡ true → control (first_of spaces g + offset) ≡ 0) (up : (offset : ℕ) → is_ascending (meeters_at new g offset) ≡ true)
      (among : (offset h : ℕ) → is_member h (meeters_at new g offset) ≡ true → is_member h (trees.members new g) ≡ true)
      (stages' : List Stage) (change : AllChange (core_source core setting) image plan blocks plan' blocks' t (numbered 0 hs) nodes nodes' afters stages' ps ps') where
    abbrev Opens : ℕ → Type 0
    Opens w = MeetingOpens (core_source core setting) image plan blocks plan' blocks' g w afters stages' control

    given : g < new.given
    given = some-given setting.processors new behind.sound g (not_none (new.nodes g) there)

    opens_at : (offset : ℕ) → offset < 8 → is_arrival offset ≡ true → Opens (first_of spaces g + offset)
    opens_at offset lt arrival =
        let w = first_of spaces g + offset in
        let tell = tells new spaces behind.spaced nodes' g offset there given lt in
        record {
          empty = zero offset lt arrival;
          size =
              phases_count plan' g w 0 nodes' stages' (meeters_at new g offset) tell.member
              (all_fine (core_source core setting) image plan blocks plan' blocks' t g 0 hs nodes nodes' afters stages' ps ps' free gone change)
              ∙ count_is 0 nodes' (meeters_at new g offset) (up offset)
              (λ h member. let below = behind.sound.within g h (among offset h member) in (omega arith, omega (arith, below, many)))
              ∙ sym tell.size;
          new = all_new g nodes' hs afters as_many gone;
        }

    pub opens : (w : ℕ) → IsOpen plan' g w → MeetingOpens (core_source core setting) image plan blocks plan' blocks' g w afters stages' control
    opens w is_open =
        let x = open_at new spaces behind.spaced nodes' g w given is_open in
        subst Opens x.word (opens_at x.offset x.few x.arrival)
