-- A hart at the block of a joint operation, on its way in the lines of a meeting.
use Rattle.std.specs.Prelude.{◌≡◌, ℕ, suc, ◌+◌, ◌≤◌, List, false, Option}
use Rattle.fk_meaning_operation.specs.declared.operation.Operation.{Operation}
use Rattle.fk_meaning_operation.specs.declared.operation.Operation.TheVariants.{Meet, Resume}
use Rattle.fk_meaning.specs.Processor.{Setting}
use Rattle.fk_core.specs.declared.op.CoreOp.{CoreOp}
use Rattle.fk_image.specs.declared.Image.{Image}
use Rattle.fk_image.specs.declared.event.Event.{Event}
use Rattle.fk_image.specs.declared.event.Event.TheVariants as events
use Rattle.fk_machine.specs.Hart.{Hart, Setting as MachineSetting}
use Rattle.fk_sim_nodes.specs.Node.{Member, Words}
use Rattle.fk_sim_nodes.specs.Phase.{Coming}
use Rattle.fk_sim_block.specs.Owner.{Owner}
use Rattle.fk_sim_block.specs.Stands.{Places, StandsAt, size_register}
use Rattle.fk_sim_block.specs.Block.{Enters, gone_to}
use Rattle.fk_sim_block.specs.Node.{Nestings, StandsInNode, OwnsHeader, body_register}
use Rattle.fk_gen_group.specs.Meeting.{Meeting, HasLeft}
use Rattle.fk_gen_group.specs.Together.{Comer, IsInLines}
use Rattle.fk_sim_block.specs.Lockstep.{IsMember}
use Rattle.fk_sim_block.specs.Joint.{word_of, AreSoMany}
use Rattle.fk_gen_group.specs.Blocks.{meeting_of}

-- The register with the number of those who meet: at a `barrier` those who run the body, else all
-- members of the node.
abbrev pub counted_by : Operation → ℕ
counted_by (Meet false) = body_register
counted_by operation = size_register

-- The event that a meeting is.
abbrev pub event_by : Operation → Event
event_by Resume = events.Resume
event_by operation = events.Meet

module _ (core : List CoreOp) (image : Image) (bound : ℕ → ℕ) (places : Places)
    (nestings : Nestings) (i : ℕ) (op : CoreOp) (operation : Operation) where
  -- A hart is on its way to an arrival word, which it reaches in `steps` cycles. Once it has left
  -- it stands for its processor after the operation.
  pub record ComesToMeet (g : Meeting) (word : ℕ) (setting : Setting) (t : MachineSetting)
      (runs : Option ℕ) (n : ℕ) (m : Member) (p : Owner) : Type 0 where
    pub comer : Comer
    pub steps : ℕ
    pub few : steps ≤ 7
    pub comes : comer.phase ≡ Coming steps
    pub stands : IsInLines g image bound word n t comer m
    pub leaves : (h : Hart) → HasLeft g image comer.lines n comer.first h
        → StandsAt places (gone_to (suc i) p) h
        × StandsInNode places nestings setting runs (gone_to (suc i) p) h

  abbrev pub BlockComesToMeet : Type 0
  BlockComesToMeet =
      (setting : Setting) (t : MachineSetting) (mine : Words) (runs : Option ℕ) (first n : ℕ)
      (m : Member) (p : Owner)
      → OwnsHeader mine first → Enters core image places setting t i op operation p m.hart
      → IsMember places nestings setting runs first m p
      → AreSoMany operation runs p n
      → ComesToMeet (meeting_of (event_by operation) (counted_by operation))
      (first + word_of operation) setting t runs n m p
