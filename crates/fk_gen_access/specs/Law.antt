-- What the blocks of accesses do.
use Rattle.std.specs.Prelude.{◌≡◌, ℕ, ◌<◌, ◌^◌, List, true, Some}
use Rattle.fk_meaning_operation.specs.declared.operation.Operation.{Operation}
use Rattle.fk_core.specs.declared.op.CoreOp.{CoreOp}
use Rattle.fk_image.specs.declared.Image.{Image}
use Rattle.fk_sim_block.specs.Stands.{Places}
use Rattle.fk_sim_block.specs.Owner.{is_hire}
use Rattle.fk_sim_block.specs.Next.{OpAt}
use Rattle.fk_sim_block.specs.Suits.{Fits}
use Rattle.fk_sim_block.specs.Block.{BlockDoes}
use Rattle.fk_gen.specs.InPlace.{HasBlock}
use Rattle.fk_gen.specs.Keeps.{BlockDoesBy}
use Rattle.fk_gen_access.specs.Blocks.{is_access, block_of, before_commit, behind_commit}
use Rattle.fk_gen_access.specs.Heap.{HasHeap}

-- The block of an access, in place, does the access, in a list whose values have room. That of
-- `shmalloc` needs the code that all such blocks share.
abbrev pub AccessBlocksDo : Type 0
AccessBlocksDo =
    (core : List CoreOp) (image : Image) (bound : ℕ → ℕ) (places : Places) (i : ℕ) (op : CoreOp)
    (operation : Operation)
    → OpAt core i op operation → is_access (Some operation) ≡ true → op.site < 2 ^ 32
    → HasBlock image bound places i (block_of (Some operation) op.depth op.site)
    → (is_hire operation ≡ true → HasHeap image bound)
    → Fits core places.frames i op operation
    → BlockDoes core image places 1 i op operation

-- The block of an access takes this many cycles, and keeps what such a block keeps.
abbrev pub AccessBlocksKeep : Type 0
AccessBlocksKeep =
    (core : List CoreOp) (image : Image) (bound : ℕ → ℕ) (places : Places) (i : ℕ) (op : CoreOp)
    (operation : Operation)
    → OpAt core i op operation → is_access (Some operation) ≡ true → op.site < 2 ^ 32
    → HasBlock image bound places i (block_of (Some operation) op.depth op.site)
    → (is_hire operation ≡ true → HasHeap image bound)
    → Fits core places.frames i op operation
    → BlockDoesBy core image places 1 (before_commit operation op.site)
    (λ onward. behind_commit operation) i op operation
