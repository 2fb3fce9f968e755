-- Each commit of the code of a list tells the event of the operation whose code it is in.
use Rattle.std.specs.Prelude.{◌≡◌, ℕ, suc, ◌+◌, ◌*◌, ◌<◌, ◌≤◌, List, All, length, ◌⊎◌}
use Rattle.fk_meaning_operation.specs.declared.operation.Operation.{Operation}
use Rattle.fk_meaning_operation.specs.declared.operation.Operation.TheVariants.{Begin, Heap, Split}
use Rattle.fk_core.specs.declared.op.CoreOp.{CoreOp}
use Rattle.fk_image.specs.declared.Image.{Image}
use Rattle.fk_image.specs.Limits.{event_of_word}
use Rattle.fk_asm.specs.Block.{MarkedLine}
use Rattle.fk_sim_block.specs.Next.{OpAt}
use Rattle.fk_sim_block.specs.Stands.{Places}
use Rattle.fk_gen.specs.Lines.{number_in}
use Rattle.fk_gen.specs.Events.{event_of}
use Rattle.fk_gen_access.specs.Heap.{heap_label, heap_lines}
use Rattle.fk_gen_group.specs.Blocks.{start_label, start_lines}
use Rattle.fk_gen_group.specs.Splits.{parts_label, parts_lines}

-- A word is one of those of lines that begin at a word.
abbrev pub IsAmong : (first : ℕ) → List MarkedLine → (word : ℕ) → Type 0
IsAmong first lines word = (first ≤ word) × (word < first + length lines)

-- A word is in the code that the blocks of such an operation share: the code of beginnings of
-- `start`, that of `shmalloc`, or that of splits of a kind.
abbrev pub IsInShared : (bound : (label : ℕ) → ℕ) → (globals : ℕ) → Operation → (word : ℕ) → Type 0
IsInShared bound globals Begin word = IsAmong (bound start_label) (start_lines globals) word
IsInShared bound globals Heap word = IsAmong (bound heap_label) (heap_lines globals) word
IsInShared bound globals (Split by) word =
    IsAmong (bound (parts_label by)) (parts_lines by) word
IsInShared bound globals operation word = ⊥

-- A word is in the block of an operation of the list.
pub record IsInBlock (core : List CoreOp) (places : Places) (operation : Operation)
    (word : ℕ) : Type 0 where
  pub index : ℕ
  pub op : CoreOp
  pub stands : OpAt core index op operation
  pub from : places.block index ≤ word
  pub below : word < places.block (suc index)

-- The word of a commit entry is in the code of an operation, and the entry's event is that of the
-- operation.
pub record TellsEvent (core : List CoreOp) (bound : (label : ℕ) → ℕ) (globals : ℕ)
    (places : Places) (entry : ℕ × ℕ) : Type 0 where
  pub word : ℕ
  pub address : entry.0 ≡ 4 * word
  pub operation : Operation
  pub code : IsInBlock core places operation word ⊎ IsInShared bound globals operation word
  pub event : event_of_word entry.1 ≡ number_in (event_of operation)

-- Each commit entry of an image tells the event of its operation.
abbrev pub TellEvents : List CoreOp → Image → (bound : (label : ℕ) → ℕ) → Places → Type 0
TellEvents core image bound places =
    All (TellsEvent core bound (length image.globals.items) places) image.commits.items
