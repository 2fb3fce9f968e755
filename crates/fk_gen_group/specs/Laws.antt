-- What the blocks of groups do in place.
use Rattle.std.specs.Prelude.{◌≡◌, ℕ, ◌-◌, ◌^◌, ◌<◌, ◌≤◌, suc, List, length, Option, Some, None}
use Rattle.std.specs.Prelude.{true, if◌then◌else◌}
use Rattle.fk_meaning_operation.specs.declared.operation.SplitKind.{SplitKind}
use Rattle.fk_meaning_operation.specs.declared.operation.SplitKind.TheVariants.{IfElse, Fork}
use Rattle.fk_meaning_operation.specs.declared.operation.Operation.{Operation}
use Rattle.fk_meaning_operation.specs.declared.operation.Operation.TheVariants.{Begin, Agree, Farm}
use Rattle.fk_meaning_operation.specs.declared.operation.Operation.TheVariants.{Seq, End, Frame}
use Rattle.fk_meaning_operation.specs.declared.operation.Operation.TheVariants.{Block, Split}
use Rattle.fk_meaning_operation.specs.declared.operation.Operation.TheVariants.{Shrink}
use Rattle.fk_meaning.specs.Group.{taken_by}
use Rattle.fk_core.specs.declared.op.CoreOp.{CoreOp}
use Rattle.fk_image.specs.declared.Image.{Image}
use Rattle.fk_sim_block.specs.Stands.{Places}
use Rattle.fk_sim_block.specs.Next.{OpAt}
use Rattle.fk_sim_block.specs.Suits.{Fits}
use Rattle.fk_gen.specs.InPlace.{HasBlock}
use Rattle.fk_gen.specs.declared.placed.Levels.{Levels}
use Rattle.fk_sim_block.specs.Node.{Nestings, HasLevelRoom}
use Rattle.fk_sim_block.specs.Lockstep.{LevelsStay, LevelOpens, StepTogether, PartTogether}
use Rattle.fk_sim_block.specs.Lockstep.{EndTogether, AreOfSize, IsLowest, AreInGroup, one_runs}
use Rattle.fk_sim_block.specs.Lockstep.{values_of_step}
use Rattle.fk_sim_block.specs.Parts.{DividesTogether, FaultsTogether, ShrinksTogether, EndsPart}
use Rattle.fk_gen_group.specs.Blocks.{block_by, frame_takes, HasStart}
use Rattle.fk_gen_group.specs.Splits.{HasParts, split_takes, split_goes_on, end_part_takes}
use Rattle.fk_gen_group.specs.Splits.{shrink_takes, shrink_goes_on}
use Rattle.fk_gen_group.specs.Start.{gathered_at, who_comes}
use Rattle.fk_sim_block.specs.Joint.{is_meeting, BlockMeets}
use Rattle.fk_sim_block.specs.Start.{BlockStarts}

-- Whether a `fork` left the last level at an index.
abbrev pub last_fork : Nestings → (index : ℕ) → Option ℕ
last_fork nestings i = nestings.forks i (nestings.levels i - 1)

-- The levels in the frame of a call at an index.
abbrev pub levels_at : Nestings → (index : ℕ) → Levels
levels_at nestings i = record {
  count = nestings.levels i;
  behind = nestings.behind i;
  nest = nestings.nest i;
  fork = last_fork nestings i;
}

-- The level that a `fork` leaves is told as one that a `fork` left. That of any other split isn't.
abbrev pub LeavesBy : SplitKind → Option ℕ → Type 0
LeavesBy Fork None = ⊥
LeavesBy Fork (Some words) = Unit {0}
LeavesBy by told = told ≡ None

-- At the second index there is one level more, which this split left.
pub record OpensBy (by : SplitKind) (nestings : Nestings) (i j : ℕ) : Type 0 where
  pub opens : LevelOpens nestings i j
  pub left : LeavesBy by (nestings.forks j (nestings.levels i))

-- A step goes on at the next index with the same levels, a split with one more. The next index is
-- not that of an end.
abbrev pub GoesOnWith : Operation → Nestings → (i : ℕ) → Type 0
GoesOnWith (Split by) nestings i = OpensBy by nestings i (suc i)
GoesOnWith End nestings i = Unit {0}
GoesOnWith operation nestings i = LevelsStay nestings i (suc i)

-- The block of a step is at its index, in a list whose values and levels have room.
pub record IsInPlace (core : List CoreOp) (image : Image) (bound : ℕ → ℕ) (places : Places)
    (nestings : Nestings) (i : ℕ) (op : CoreOp) (operation : Operation) : Type 0 where
  pub stands : OpAt core i op operation
  pub block : HasBlock image bound places i
      (block_by (Some operation) (levels_at nestings i) op.depth op.target op.site)
  pub fits : Fits core places.frames i op operation
  pub few : places.frames.of_file ≤ 56
  pub values : values_of_step operation ≤ op.depth
  pub levels : HasLevelRoom places.frames nestings i op.depth
  pub stay : GoesOnWith operation nestings i

-- Members in lockstep commit two cycles after they come to the block: all agree on the last value
-- of the highest member. One cycle more brings them to the next block.
abbrev pub GroupsAgree : Type 0
GroupsAgree =
    (core : List CoreOp) (image : Image) (bound : ℕ → ℕ) (places : Places) (nestings : Nestings)
    (i : ℕ) (op : CoreOp) (lowest size : ℕ)
    → IsInPlace core image bound places nestings i op Agree → StepTogether core image places
    nestings i op Agree 1 (λ ps. Unit {0}) 2 1 None (λ p. None) lowest size

-- The block of a `barrier`, of the end of a body or of the end of a part leads its hart to a
-- meeting, where it arrives after at most 7 cycles.
abbrev pub BlocksMeet : Type 0
BlocksMeet =
    (core : List CoreOp) (image : Image) (bound : ℕ → ℕ) (places : Places) (nestings : Nestings)
    (i : ℕ) (op : CoreOp) (operation : Operation)
    → is_meeting operation ≡ true → IsInPlace core image bound places nestings i op operation
    → BlockMeets core image places nestings i op operation 7

-- In one cycle all members of a group begin to run a `farm`'s body, each by itself.
abbrev pub GroupsSetFree : Type 0
GroupsSetFree =
    (core : List CoreOp) (image : Image) (bound : ℕ → ℕ) (places : Places) (nestings : Nestings)
    (i : ℕ) (op : CoreOp) (lowest size : ℕ)
    → size ≤ 1024 → IsInPlace core image bound places nestings i op Farm
    → PartTogether core image places nestings i op Farm 1 (λ ps. AreOfSize size ps) 0 0 None
    (λ p. Some size) lowest size

-- The lowest member alone comes to the body of a `seq`, which it runs by itself. The others come to
-- the end of that body.
abbrev pub GroupsSendOne : Type 0
GroupsSendOne =
    (core : List CoreOp) (image : Image) (bound : ℕ → ℕ) (places : Places) (nestings : Nestings)
    (i : ℕ) (op : CoreOp) (lowest size : ℕ)
    → IsInPlace core image bound places nestings i op Seq → LevelsStay nestings i op.target
    → PartTogether core image places nestings i op Seq 1
    (λ ps. (length ps ≤ 1024) × IsLowest lowest ps) 3 2 None (one_runs lowest) lowest size

-- The members of the group of `start`, which has no level in the frame, go back to the root.
abbrev pub GroupsEnd : Type 0
GroupsEnd =
    (core : List CoreOp) (image : Image) (bound : ℕ → ℕ) (places : Places) (nestings : Nestings)
    (i : ℕ) (op : CoreOp) (lowest size : ℕ)
    → IsInPlace core image bound places nestings i op End
    → (nestings.levels i ≡ 0 → LevelsStay nestings i op.target)
    → EndTogether core image places nestings i op 1 6 lowest size

-- At the beginning of `start` all processors meet in the root, after at most 9 cycles. Two cycles
-- after the one in which they leave they commit, and know the last value of the highest. Those with
-- numbers below it come 21 cycles later to the body, in the group. The others come 11 cycles later
-- to where they wait.
abbrev pub GroupsStart : Type 0
GroupsStart =
    (core : List CoreOp) (image : Image) (bound : ℕ → ℕ) (places : Places) (nestings : Nestings)
    (i : ℕ) (op : CoreOp)
    → HasStart image bound → IsInPlace core image bound places nestings i op Begin
    → LevelsStay nestings i op.target
    → BlockStarts core image places nestings i op (gathered_at bound)
    (who_comes bound op.depth) 9 1 (λ onward. if onward then 21 else 11)

-- Members in lockstep take a group frame together, if there is room. Else the lowest member faults
-- at the site.
abbrev pub GroupsTakeFrames : Type 0
GroupsTakeFrames =
    (core : List CoreOp) (image : Image) (bound : ℕ → ℕ) (places : Places) (nestings : Nestings)
    (i : ℕ) (op : CoreOp) (nesting words lowest size : ℕ)
    → IsInPlace core image bound places nestings i op (Frame nesting words) → op.site < 2 ^ 32
    → StepTogether core image places nestings i op (Frame nesting words) 1 AreInGroup
    (frame_takes words) 0 None (λ p. None) lowest size

-- Members in lockstep take a block of `shalloc` together. They commit at once, and 12 cycles bring
-- them to the next block.
abbrev pub GroupsTakeBlocks : Type 0
GroupsTakeBlocks =
    (core : List CoreOp) (image : Image) (bound : ℕ → ℕ) (places : Places) (nestings : Nestings)
    (i : ℕ) (op : CoreOp) (lowest size : ℕ)
    → IsInPlace core image bound places nestings i op Block
    → StepTogether core image places nestings i op Block 1 AreInGroup 0 12 None (λ p. None)
    lowest size

-- ---- parts

-- On the other way of a split into one part members wait with the levels that they have. Of a split
-- into two they enter the second part, where the frame has room for one level more.
abbrev pub GoesAside : SplitKind → Places → Nestings → (i target values : ℕ) → Type 0
GoesAside IfElse places nestings i target values =
    OpensBy IfElse nestings i target × HasLevelRoom places.frames nestings target values
GoesAside by places nestings i target values = LevelsStay nestings i target

-- The block of a split is at its index, the image has the code that splits share, and the frame has
-- room for one level more.
pub record IsSplitInPlace (core : List CoreOp) (image : Image) (bound : ℕ → ℕ) (places : Places)
    (nestings : Nestings) (i : ℕ) (op : CoreOp) (by : SplitKind) : Type 0 where
  pub place : IsInPlace core image bound places nestings i op (Split by)
  pub parts : HasParts image bound
  pub room : HasLevelRoom places.frames nestings (suc i) (op.depth - taken_by by)
  pub aside : GoesAside by places nestings i op.target (op.depth - taken_by by)

-- Members in lockstep whose space has room for the parts divide together.
abbrev pub GroupsDivide : Type 0
GroupsDivide =
    (core : List CoreOp) (image : Image) (bound : ℕ → ℕ) (places : Places) (nestings : Nestings)
    (i : ℕ) (op : CoreOp) (by : SplitKind)
    → IsSplitInPlace core image bound places nestings i op by
    → DividesTogether core image places nestings i op by (split_takes by)
    (split_goes_on by (nestings.levels i))

-- Without that room the lowest faults at the site.
abbrev pub GroupsLackRoom : Type 0
GroupsLackRoom =
    (core : List CoreOp) (image : Image) (bound : ℕ → ℕ) (places : Places) (nestings : Nestings)
    (i : ℕ) (op : CoreOp) (by : SplitKind)
    → IsSplitInPlace core image bound places nestings i op by
    → op.site < 2 ^ 32 → FaultsTogether core image places nestings i op by

-- The members of a part in lockstep who stay in a loop are counted, and the others leave the part.
-- No `fork` made that part.
abbrev pub PartsShrink : Type 0
PartsShrink =
    (core : List CoreOp) (image : Image) (bound : ℕ → ℕ) (places : Places) (nestings : Nestings)
    (i : ℕ) (op : CoreOp)
    → IsInPlace core image bound places nestings i op Shrink → LevelOpens nestings op.target i
    → last_fork nestings i ≡ None
    → ShrinksTogether core image places nestings i op shrink_takes shrink_goes_on

-- The members of a part go back to the group around it.
abbrev pub PartsEnd : Type 0
PartsEnd =
    (core : List CoreOp) (image : Image) (bound : ℕ → ℕ) (places : Places) (nestings : Nestings)
    (i : ℕ) (op : CoreOp)
    → IsInPlace core image bound places nestings i op End
    → (0 < nestings.levels i → LevelOpens nestings op.target i)
    → EndsPart core image places nestings i op
    (λ onward. end_part_takes (last_fork nestings i) (nestings.levels i))
