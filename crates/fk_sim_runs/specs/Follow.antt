-- Machines of an image that has the law of blocks of groups follow the core runs of a list.
use Rattle.std.specs.Prelude.{ℕ, ◌^◌, ◌<◌, ◌≤◌, List, All}
use Rattle.fk_core.specs.declared.op.CoreOp.{CoreOp}
use Rattle.fk_core.specs.Next.{next, list_opening}
use Rattle.fk_image.specs.declared.Image.{Image}
use Rattle.fk_sim_block.specs.Stands.{Places}
use Rattle.fk_sim_rounds.specs.Follows.{IsInput, Follows}
use Rattle.fk_sim_block.specs.Node.{Nestings}
use Rattle.fk_sim_block.specs.Law.{Cycles, GroupLaw}
use Rattle.fk_sim_runs.specs.Lists.{IsOfTree}

-- An image has the blocks of a list. The first values and the globals are words.
pub record CarriesTrees (core : List CoreOp) (main : ℕ) (firsts : List ℕ) (places : Places)
    (nestings : Nestings) (cycles : Cycles) (image : Image) : Type 0 where
  pub tree : IsOfTree core nestings main
  pub blocks : GroupLaw core image places nestings cycles firsts main
  pub firsts_are_words : All (λ w. w < 2 ^ 32) firsts
  pub globals_are_words : All (λ w. w < 2 ^ 32) image.globals.items

-- The machine of the image follows the list's core runs, for every input, number of harts and
-- number of cycles.
abbrev pub MachinesFollowTrees : Type 0
MachinesFollowTrees =
    (core : List CoreOp) (main : ℕ) (firsts : List ℕ) (places : Places) (nestings : Nestings)
    (cycles : Cycles) (image : Image) → CarriesTrees core main firsts places nestings cycles image
    → (input : List ℕ) (p n : ℕ) → IsInput image input → 1 ≤ p → p ≤ 1024
    → Follows (next core) image input p n (list_opening main image.globals.items firsts input p)
