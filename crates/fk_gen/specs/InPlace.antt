-- Lines in an image, each label bound to a word.
use Rattle.std.specs.Prelude.{◌≡◌, ℕ, suc, ◌+◌, ◌≤◌, List, [], ◌∷◌, length, Option, Some, None}
use Rattle.std.specs.Option.{option_map_or}
use Rattle.fk_num.specs.Limits.{most_code_words}
use Rattle.fk_image.specs.declared.Image.{Image}
use Rattle.fk_image.specs.Limits.{count_of_word}
use Rattle.fk_isa.specs.declared.instruction.Instruction.{Instruction}
use Rattle.fk_asm.specs.declared.line.Line.{Line}
use Rattle.fk_asm.specs.Jump.{distance, with_distance}
use Rattle.fk_asm.specs.Block.{MarkedLine}
use Rattle.fk_sim_nodes.specs.Alone.{IsAt}
use Rattle.fk_sim_block.specs.Stands.{Places}
use Rattle.fk_gen.specs.Lines.{label_of}

-- The instruction at word k: a jump to a label goes the distance to that label.
abbrev pub resolved : (bound : ℕ → ℕ) → (k : ℕ) → Line → Instruction
resolved bound k line =
    option_map_or
    (λ label. with_distance line.instruction (distance k (bound label))) line.label line.instruction

-- The number of operations that a line does.
abbrev pub count_of_commit : Option ℕ → ℕ
count_of_commit None = 0
count_of_commit (Some commit) = count_of_word commit

-- The image has these lines from word k on.
abbrev pub LinesAt : Image → (bound : ℕ → ℕ) → (k : ℕ) → List MarkedLine → Type 0
LinesAt image bound k [] = Unit {0}
LinesAt image bound k (m ∷ ms) =
    IsAt image k (resolved bound k m.line) (count_of_commit m.commit)
    × LinesAt image bound (suc k) ms

-- The labels of the list are those of its places, and all are in the code or right after it.
pub record HasLabels (bound : ℕ → ℕ) (places : Places) : Type 0 where
  pub blocks : (i : ℕ) → bound (label_of i) ≡ places.block i
  pub within : (label : ℕ) → bound label ≤ most_code_words

-- The block is at an index, and the block of the next index comes right after it.
pub record HasBlock (image : Image) (bound : ℕ → ℕ) (places : Places) (i : ℕ)
    (block : List MarkedLine) : Type 0 where
  pub labels : HasLabels bound places
  pub lines : LinesAt image bound (places.block i) block
  pub next : places.block (suc i) ≡ places.block i + length block
