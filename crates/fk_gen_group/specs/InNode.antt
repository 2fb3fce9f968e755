-- Blocks of operations that processors do by themselves, in a node.
use Rattle.std.specs.Prelude.{◌≡◌, ℕ, suc, ◌-◌, ◌<◌, ◌≤◌, List, [], ◌∷◌, Bool, true}
use Rattle.fk_meaning_operation.specs.declared.operation.Operation.{Operation}
use Rattle.fk_meaning_operation.specs.declared.operation.Operation.TheVariants.{Leave, Enter}
use Rattle.fk_core.specs.declared.op.CoreOp.{CoreOp}
use Rattle.fk_core.specs.Next.{follows, behind_jump}
use Rattle.fk_image.specs.declared.Image.{Image}
use Rattle.fk_meaning.specs.Processor.{Setting}
use Rattle.fk_meaning.specs.Local.{is_onward}
use Rattle.fk_machine.specs.Hart.{Hart, Setting as MachineSetting}
use Rattle.fk_sim_block.specs.Owner.{Owner}
use Rattle.fk_sim_block.specs.Block.{Enters}
use Rattle.fk_sim_block.specs.Stands.{Places}
use Rattle.fk_sim_block.specs.Next.{OpAt}
use Rattle.fk_sim_block.specs.Ready.{is_alone}
use Rattle.fk_sim_block.specs.Suits.{Flows, nothing, writes}
use Rattle.fk_isa.specs.declared.instruction.Instruction.TheVariants.{Jal}
use Rattle.fk_sim_block.specs.Stands.{zero_register}
use Rattle.fk_gen.specs.Lines.{goes_to, label_of}
use Rattle.fk_gen.specs.InPlace.{HasBlock}
use Rattle.fk_gen.specs.declared.placed.Levels.{Levels}
use Rattle.fk_gen.specs.Parts.{FindsPart}
use Rattle.fk_gen.specs.Keeps.{DoesAnd, peak}
use Rattle.fk_gen_flow.specs.Keeps.{KeepsFor}
use Rattle.fk_sim_block.specs.Node.{Nestings, HasLevelRoom}
use Rattle.fk_sim_block.specs.Lockstep.{LevelsStay}
use Rattle.fk_sim_block.specs.Law.{Cycles, BlockDoesInNode, BlockJumpsInNode}
use Rattle.fk_gen_group.specs.Laws.{levels_at}

-- The levels of the running call have room beside the values of an operation and the private words
-- that it writes, and the call goes on with these levels. The frame has the levels of all parts
-- that the call is in, but perhaps that of the outermost.
pub record HasLevels (core : List CoreOp) (places : Places) (nestings : Nestings) (i : ℕ)
    (op : CoreOp) (operation : Operation) : Type 0 where
  pub few : places.frames.of_file ≤ 56
  pub room : HasLevelRoom places.frames nestings i (peak operation op.depth)
  pub apart : 0 < nestings.levels i → (word : ℕ) → writes operation word ≡ true
      → word < nestings.behind i
  pub stay : (onward : Bool)
      → LevelsStay nestings i (follows core operation i op.target [] onward).at
  pub nest : nestings.nest i ≤ suc (nestings.levels i)

-- The caller of a call goes on after the first jump from the next index on, with the same levels,
-- which have room beside the values that are left and a result. The new frame has no levels.
pub record GivesLevels (core : List CoreOp) (places : Places) (nestings : Nestings)
    (i depth arguments : ℕ) : Type 0 where
  pub few : places.frames.of_file ≤ 56
  pub stay : LevelsStay nestings i (behind_jump core (suc i))
  pub room : HasLevelRoom places.frames nestings (behind_jump core (suc i))
      (suc (depth - arguments))
  pub none : nestings.levels (suc i) ≡ 0
  pub entry : HasLevelRoom places.frames nestings (suc i) 0

-- The frame of a call that ends has no levels.
pub record HasNoLevels (places : Places) (nestings : Nestings) (i : ℕ) : Type 0 where
  pub few : places.frames.of_file ≤ 56
  pub none : nestings.levels i ≡ 0

-- What an operation needs of the levels of the running call.
abbrev pub LevelsFit : (core : List CoreOp) → Places → Nestings → (i : ℕ) → CoreOp
    → Operation → Type 0
LevelsFit core places nestings i op (Enter arguments) =
    GivesLevels core places nestings i op.depth arguments
LevelsFit core places nestings i op (Leave gives framed) = HasNoLevels places nestings i
LevelsFit core places nestings i op operation = HasLevels core places nestings i op operation

-- The block of an operation does it in this many cycles, and keeps what must be kept, where its
-- hart finds the frame of a part of which it gets a word.
abbrev pub BlockKeepsIn : (core : List CoreOp) → Image → Places → Levels → (before : ℕ)
    → (behind : (onward : Bool) → ℕ) → (i : ℕ) → CoreOp → Operation → Type 0
BlockKeepsIn core image places levels before behind i op operation =
    (setting : Setting) (t : MachineSetting) (p : Owner) (h : Hart)
    → Enters core image places setting t i op operation p h → FindsPart places levels operation p h
    → DoesAnd core image places setting t 1 p h before (behind (is_onward operation p.runner.has))
    (λ h'. KeepsFor places operation op.depth p.runner.has h h')

-- A block of an operation that processors do alone, and that keeps what must be kept, keeps its
-- hart in its node, in as many cycles.
abbrev pub LoneBlocksStayInNode : Type 0
LoneBlocksStayInNode =
    (core : List CoreOp) (image : Image) (places : Places) (nestings : Nestings) (cycles : Cycles)
    (i : ℕ) (op : CoreOp) (operation : Operation)
    → OpAt core i op operation → is_alone operation ≡ true
    → LevelsFit core places nestings i op operation
    → BlockKeepsIn core image places (levels_at nestings i) (cycles.before i) (cycles.behind i) i op
    operation
    → BlockDoesInNode core image places nestings cycles 1 i op operation

-- The block of a jump keeps its hart in its node, where the call goes on with the same levels.
abbrev pub JumpsStayInNode : Type 0
JumpsStayInNode =
    (core : List CoreOp) (image : Image) (bound : ℕ → ℕ) (places : Places) (nestings : Nestings)
    (i : ℕ) (op : CoreOp)
    → HasBlock image bound places i (goes_to (Jal zero_register 0) (label_of op.target) ∷ [])
    → Flows core places.frames nothing i op.target
    → places.frames.of_file ≤ 56 → LevelsStay nestings i op.target
    → BlockJumpsInNode core image places nestings i op
