-- What a block guarantees besides doing its operation: how many cycles it takes, and what it keeps
-- of its hart besides what stands for a processor.
use Rattle.std.specs.Prelude.{◌≡◌, ℕ, suc, ◌+◌, ◌-◌, ◌<◌, ◌≤◌, List, [], ◌∷◌, length, Bool, true}
use Rattle.fk_meaning_operation.specs.declared.operation.Operation.{Operation}
use Rattle.fk_meaning_operation.specs.declared.operation.Operation.TheVariants.{Push, Get, CopyLast}
use Rattle.fk_meaning.specs.Processor.{Setting}
use Rattle.fk_meaning.specs.Local.{is_onward}
use Rattle.fk_core.specs.declared.op.CoreOp.{CoreOp}
use Rattle.fk_image.specs.declared.Image.{Image}
use Rattle.fk_machine.specs.Hart.{Hart, Setting as MachineSetting}
use Rattle.fk_sim_nodes.specs.OneHart.{OneDoes}
use Rattle.fk_asm.specs.Block.{MarkedLine}
use Rattle.fk_sim_block.specs.Owner.{Owner, core_source}
use Rattle.fk_sim_block.specs.Stands.{Places, frame_start, frame_end, full_word}
use Rattle.fk_sim_block.specs.Node.{node_register, body_register, space_frames, space_blocks}
use Rattle.fk_sim_block.specs.Suits.{writes}
use Rattle.fk_sim_block.specs.Block.{Enters, HasDone, member_of, most_before, most_behind}

-- The number of lines of a block after its first one.
abbrev pub past_first : List MarkedLine → ℕ
past_first [] = 0
past_first (l ∷ ls) = length ls

-- The most values in the frame while an operation runs that finds `depth` values and makes no call.
abbrev pub peak : Operation → (depth : ℕ) → ℕ
peak (Push n) depth = suc depth
peak (Get known) depth = suc depth
peak CopyLast depth = suc depth
peak operation depth = depth

-- a hart keeps what it knows of its node, the words below all frames but its note about the global
-- heap, and in the frames of all calls all words but private ones that are written, and so many
-- values of the running call
pub record Keeps (places : Places) (waiting values : ℕ) (written : (word : ℕ) → Bool)
    (h h' : Hart) : Type 0 where
  pub node : h'.registers node_register ≡ h.registers node_register
  pub body : h'.registers body_register ≡ h.registers body_register
  pub frames : space_frames h' ≡ space_frames h
  pub blocks : space_blocks h' ≡ space_blocks h
  pub header : (j : ℕ) → j < 7 → (j ≡ full_word → ⊥) → h'.local j ≡ h.local j
  pub words : (j : ℕ) → places.frames.of_file + 7 ≤ j → j < frame_end waiting - values
      → ((word : ℕ) → written word ≡ true → j ≡ frame_start places waiting + 7 + word → ⊥)
      → h'.local j ≡ h.local j

module _ (core : List CoreOp) (image : Image) (places : Places) where
  -- The hart commits with this count after `before` private instructions, runs `behind` more, and
  -- then `Also` holds.
  pub record DoesAnd (setting : Setting) (t : MachineSetting) (count : ℕ) (p : Owner) (h : Hart)
      (before behind : ℕ) (Also : Hart → Type 0) : Type 0 where
    pub few_before : before ≤ most_before
    pub few_behind : behind ≤ most_behind
    pub does : OneDoes (core_source core setting) image t count before behind (member_of p h) p
        (λ h' d. HasDone core image places d h' × Also h')

  -- The block does an operation that makes no call, and ends none. The number of cycles after its
  -- commit depends on the branch that it takes.
  abbrev pub BlockDoesBy : (count before : ℕ) → (behind : (onward : Bool) → ℕ) → (i : ℕ)
      → CoreOp → Operation → Type 0
  BlockDoesBy count before behind i op operation =
      (setting : Setting) (t : MachineSetting) (p : Owner) (h : Hart)
      → Enters core image places setting t i op operation p h
      → DoesAnd setting t count p h before (behind (is_onward operation p.runner.has))
      (Keeps places (length p.runner.has.callers) (peak operation op.depth) (writes operation) h)
