-- A hart at the beginning of a block is at a stage.
use Rattle.std.specs.Prelude.{◌≡◌, ℕ, ◌+◌, ◌≤◌, List, length, map, Bool, true, Some, None}
use Rattle.fk_num.specs.Word.{Memory}
use Rattle.fk_space.specs.Space.{Space}
use Rattle.fk_meaning_operation.specs.declared.operation.SplitKind.{SplitKind}
use Rattle.fk_meaning_operation.specs.declared.operation.Operation.{Operation}
use Rattle.fk_meaning_operation.specs.declared.operation.Operation.TheVariants.{Begin, End, Halt}
use Rattle.fk_meaning_operation.specs.declared.operation.Operation.TheVariants.{Split, Shrink}
use Rattle.fk_meaning.specs.Processor.{Setting}
use Rattle.fk_core.specs.declared.op.CoreOp.{CoreOp}
use Rattle.fk_image.specs.declared.Image.{Image}
use Rattle.fk_machine.specs.Hart.{Setting as MachineSetting}
use Rattle.fk_sim_nodes.specs.Node.{Member}
use Rattle.fk_sim_nodes.specs.Phase.{Coming}
use Rattle.fk_sim_match.specs.Stage.{Commits, Unites, Stage, Acts, Meets}
use Rattle.fk_sim_match.specs.Plan.{Plan, IsOpen, StandsAt, InLockstep}
use Rattle.fk_sim_match.specs.Change.{IsFresh}
use Rattle.fk_sim_block.specs.Owner.{Owner, number_of, core_source}
use Rattle.fk_sim_block.specs.Stands.{Places}
use Rattle.fk_sim_block.specs.Next.{OpAt}
use Rattle.fk_sim_block.specs.Ready.{is_alone}
use Rattle.fk_sim_block.specs.Block.{most_before, IsRunning, Enters}
use Rattle.fk_sim_block.specs.Node.{Nestings, OwnsHeader, OwnsSpace, IsAtRest, root_words}
use Rattle.fk_sim_block.specs.Node.{closing_word}
use Rattle.fk_sim_block.specs.Found.{FindsFrame}
use Rattle.fk_sim_block.specs.Lockstep.{IsMember, AllEnter}
use Rattle.fk_sim_block.specs.Parts.{AreToDivide, AreInPart}
use Rattle.fk_sim_block.specs.Joint.{most_to_meet, is_meeting, word_of, AreSoMany}
use Rattle.fk_sim_block.specs.Start.{most_to_start, IsInRoot, AllHaveMet}
use Rattle.fk_sim_block.specs.Law.{Cycles, GroupLaw, is_shared_step, IsAskedOf}
use Rattle.fk_sim_block.specs.Laws.{AllGo}
use Rattle.fk_sim_match.specs.Behind.{runs_of, IsAskedToMove, blocks_of}

-- All members are at one distance from the commit of one operation.
abbrev pub all_act : (d : ℕ) → List Member → List Stage
all_act d ms = map (λ m. Acts d 0) ms

-- A member by itself, at the block of a local operation or a request.
abbrev pub MembersStandAtStages : Type 0
MembersStandAtStages =
    (core : List CoreOp) (image : Image) (places : Places) (nestings : Nestings) (cycles : Cycles)
    (firsts : List ℕ) (main : ℕ) (setting : Setting) (plan : Plan) (first : ℕ → ℕ)
    (t : MachineSetting) (g i : ℕ) (op : CoreOp) (operation : Operation) (m : Member) (p : Owner)
    → GroupLaw core image places nestings cycles firsts main → OpAt core i op operation
    → is_alone operation ≡ true
    → Enters core image places setting t i op operation p m.hart
    → IsMember places nestings setting (runs_of plan (first g) m.number) (first g) m p
    → FindsFrame nestings operation p.runner
    → StandsAt (core_source core setting) image plan
    (blocks_of core image places nestings setting plan first) t g (Acts (cycles.before i) 0) m p

-- A member by itself, at the block of a halt.
abbrev pub MembersHaltAtStages : Type 0
MembersHaltAtStages =
    (core : List CoreOp) (image : Image) (places : Places) (nestings : Nestings) (cycles : Cycles)
    (firsts : List ℕ) (main : ℕ) (setting : Setting) (plan : Plan) (first : ℕ → ℕ)
    (t : MachineSetting) (g i : ℕ) (op : CoreOp) (m : Member) (p : Owner)
    → GroupLaw core image places nestings cycles firsts main → OpAt core i op Halt
    → Enters core image places setting t i op Halt p m.hart → m.number ≡ number_of p
    → (d : ℕ) × (d ≤ most_before) × StandsAt (core_source core setting) image plan
    (blocks_of core image places nestings setting plan first) t g (Acts d 0) m p

-- A member at the block of a joint operation is on its way to the arrival word.
abbrev pub MeetersSetOut : Type 0
MeetersSetOut =
    (core : List CoreOp) (image : Image) (places : Places) (nestings : Nestings) (cycles : Cycles)
    (firsts : List ℕ) (main : ℕ) (setting : Setting) (plan : Plan) (first : ℕ → ℕ)
    (t : MachineSetting) (g i w : ℕ) (op : CoreOp) (operation : Operation) (m : Member) (p : Owner)
    → GroupLaw core image places nestings cycles firsts main → OpAt core i op operation
    → is_meeting operation ≡ true
    → Enters core image places setting t i op operation p m.hart
    → IsMember places nestings setting (runs_of plan (first g) m.number) (first g) m p
    → OwnsHeader (plan.words g) (first g) → w ≡ first g + word_of operation
    → IsOpen plan g w → plan.member w m.number ≡ true
    → AreSoMany operation (runs_of plan (first g) m.number) p (plan.size w)
    → (d : ℕ) × (d ≤ most_to_meet) × IsFresh t (Meets Commits w (Coming d))
    × StandsAt (core_source core setting) image plan
    (blocks_of core image places nestings setting plan first) t g (Meets Commits w (Coming d)) m p

-- A member at the beginning of `start`, in the root, is on its way to the word where it meets all
-- others.
abbrev pub StartersSetOut : Type 0
StartersSetOut =
    (core : List CoreOp) (image : Image) (places : Places) (nestings : Nestings) (cycles : Cycles)
    (firsts : List ℕ) (main : ℕ) (setting : Setting) (plan : Plan) (first : ℕ → ℕ)
    (t : MachineSetting) (i w : ℕ) (op : CoreOp) (m : Member) (p : Owner)
    → GroupLaw core image places nestings cycles firsts main → OpAt core i op Begin
    → Enters core image places setting t i op Begin p m.hart
    → IsMember places nestings setting (Some setting.processors) root_words m p
    → IsInRoot nestings setting p
    → OwnsHeader (plan.words 0) root_words → w ≡ root_words + closing_word → IsOpen plan 0 w
    → plan.member w m.number ≡ true → plan.size w ≡ setting.processors
    → (d : ℕ) × (d ≤ most_to_start) × IsFresh t (Meets Unites w (Coming d))
    × StandsAt (core_source core setting) image plan
    (blocks_of core image places nestings setting plan first) t 0 (Meets Unites w (Coming d)) m p

-- Members at a local operation or a request are in lockstep, with nobody at the words of their
-- node.
abbrev pub GroupsActTogether : Type 0
GroupsActTogether =
    (core : List CoreOp) (image : Image) (places : Places) (nestings : Nestings) (cycles : Cycles)
    (firsts : List ℕ) (main : ℕ) (setting : Setting) (plan : Plan) (first : ℕ → ℕ)
    (t : MachineSetting) (g i : ℕ) (op : CoreOp) (operation : Operation) (onward : Bool)
    (ms : List Member) (ps : List Owner) (own : Memory)
    → GroupLaw core image places nestings cycles firsts main → OpAt core i op operation
    → is_alone operation ≡ true → OwnsHeader (plan.words g) (first g)
    → AllEnter core image places nestings i op operation setting t None (first g) ms ps
    → AllGo nestings operation onward ps → IsAtRest (first g) own
    → InLockstep (core_source core setting) image plan
    (blocks_of core image places nestings setting plan first) t g
    (all_act (cycles.before i) ms) ms ps own

-- Members at a step of the tree in which they keep their node are in lockstep.
abbrev pub GroupsStepTogether : Type 0
GroupsStepTogether =
    (core : List CoreOp) (image : Image) (places : Places) (nestings : Nestings) (cycles : Cycles)
    (firsts : List ℕ) (main : ℕ) (setting : Setting) (plan : Plan) (first : ℕ → ℕ)
    (t : MachineSetting) (g i : ℕ) (op : CoreOp) (operation : Operation) (lowest size : ℕ)
    (ms : List Member) (ps : List Owner) (own : Memory)
    → GroupLaw core image places nestings cycles firsts main → OpAt core i op operation
    → is_shared_step operation ≡ true
    → OwnsHeader (plan.words g) (first g)
    → AllEnter core image places nestings i op operation setting t None (first g) ms ps
    → IsAskedOf operation lowest size ps → IsAtRest (first g) own
    → InLockstep (core_source core setting) image plan
    (blocks_of core image places nestings setting plan first) t g
    (all_act (cycles.before i) ms) ms ps own

-- Members at the end of the group of `start`, or of a part, are in lockstep.
abbrev pub GroupsEndTogether : Type 0
GroupsEndTogether =
    (core : List CoreOp) (image : Image) (places : Places) (nestings : Nestings) (cycles : Cycles)
    (firsts : List ℕ) (main : ℕ) (setting : Setting) (plan : Plan) (first : ℕ → ℕ)
    (t : MachineSetting) (g i : ℕ) (op : CoreOp) (ms : List Member) (ps : List Owner) (own : Memory)
    → GroupLaw core image places nestings cycles firsts main → OpAt core i op End
    → OwnsHeader (plan.words g) (first g)
    → AllEnter core image places nestings i op End setting t None (first g) ms ps
    → IsAskedToMove nestings End 0 ps → IsAtRest (first g) own
    → InLockstep (core_source core setting) image plan
    (blocks_of core image places nestings setting plan first) t g (all_act 0 ms) ms ps own

-- Members at a split are in lockstep, whether there is room for its parts or not.
abbrev pub GroupsDivideTogether : Type 0
GroupsDivideTogether =
    (core : List CoreOp) (image : Image) (places : Places) (nestings : Nestings) (cycles : Cycles)
    (firsts : List ℕ) (main : ℕ) (setting : Setting) (plan : Plan) (first : ℕ → ℕ)
    (t : MachineSetting) (g i : ℕ) (op : CoreOp) (by : SplitKind) (space : Space) (count : ℕ)
    (ms : List Member) (ps : List Owner) (own : Memory)
    → GroupLaw core image places nestings cycles firsts main → OpAt core i op (Split by)
    → OwnsHeader (plan.words g) (first g) → OwnsSpace (plan.words g) space
    → AllEnter core image places nestings i op (Split by) setting t None (first g) ms ps
    → AreToDivide nestings by space count ps → IsAtRest (first g) own
    → (d : ℕ) × (d ≤ most_before) × InLockstep (core_source core setting) image plan
    (blocks_of core image places nestings setting plan first) t g (all_act d ms) ms ps own

-- Members at a turn of a loop in which they may leave it are in lockstep.
abbrev pub GroupsShrinkTogether : Type 0
GroupsShrinkTogether =
    (core : List CoreOp) (image : Image) (places : Places) (nestings : Nestings) (cycles : Cycles)
    (firsts : List ℕ) (main : ℕ) (setting : Setting) (plan : Plan) (first : ℕ → ℕ)
    (t : MachineSetting) (g i : ℕ) (op : CoreOp) (ms : List Member) (ps : List Owner) (own : Memory)
    → GroupLaw core image places nestings cycles firsts main → OpAt core i op Shrink
    → OwnsHeader (plan.words g) (first g)
    → AllEnter core image places nestings i op Shrink setting t None (first g) ms ps
    → AreInPart nestings ps → length ps ≤ 1024 → IsAtRest (first g) own
    → InLockstep (core_source core setting) image plan
    (blocks_of core image places nestings setting plan first) t g
    (all_act (cycles.before i) ms) ms ps own

-- All who have met in the root at the beginning of `start` are in lockstep.
abbrev pub GroupsStartTogether : Type 0
GroupsStartTogether =
    (core : List CoreOp) (image : Image) (places : Places) (nestings : Nestings) (cycles : Cycles)
    (firsts : List ℕ) (main : ℕ) (setting : Setting) (plan : Plan) (first : ℕ → ℕ)
    (t : MachineSetting) (i : ℕ) (op : CoreOp) (ms : List Member) (ps : List Owner) (own : Memory)
    → GroupLaw core image places nestings cycles firsts main → OpAt core i op Begin
    → OwnsHeader (plan.words 0) root_words → IsRunning image setting t
    → AllHaveMet core image places nestings i op (nestings.start.there i)
    (nestings.start.coming i) setting ms ps → IsAtRest root_words own
    → InLockstep (core_source core setting) image plan
    (blocks_of core image places nestings setting plan first) t 0
    (all_act (cycles.before i) ms) ms ps own
