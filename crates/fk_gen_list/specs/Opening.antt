-- The opening of an image: each hart begins in the root.
use Rattle.std.specs.Prelude.{◌≡◌, ℕ, List, true, false}
use Rattle.fk_core.specs.declared.op.CoreOp.{CoreOp}
use Rattle.fk_image.specs.declared.Image.{Image}
use Rattle.fk_sim_block.specs.Stands.{Places}
use Rattle.fk_gen_flow.specs.Opening.{AreFirsts, HasOpening}
use Rattle.fk_sim_block.specs.Node.{Nestings, HasLevelRoom}
use Rattle.fk_gen_list.specs.Laws.{HartsBeginInNode}

-- From its start each hart comes to the block where `main` begins, in the root, with no level in
-- its frame.
abbrev pub GroupsBegin : Type 0
GroupsBegin =
    (core : List CoreOp) (image : Image) (bound : ℕ → ℕ) (places : Places) (nestings : Nestings)
    (firsts : List ℕ) (main : ℕ)
    → HasOpening image bound places firsts main → AreFirsts places.frames.of_file firsts
    → places.frames.is_main main ≡ true
    → places.frames.group main ≡ false
    → nestings.levels main ≡ 0 → HasLevelRoom places.frames nestings main 0
    → HartsBeginInNode core image places nestings firsts main
