-- Blocks one after another, each with its label.
use Rattle.std.specs.Prelude.{◌≡◌, ℕ, zero, suc, ◌+◌, ◌-◌, ◌*◌, ◌<◌, ◌≤◌, nat_le, List, [], ◌∷◌}
use Rattle.std.specs.Prelude.{◌++◌, length, take, flat_map, Option, Some, None, slice_get}
use Rattle.std.specs.Prelude.{slice_index_or, slice_set, if◌then◌else◌}
use Rattle.fk_meaning_operation.specs.declared.operation.Operation.{Operation}
use Rattle.fk_meaning_operation.specs.declared.operation.Operation.TheVariants.{Enter}
use Rattle.fk_core.specs.declared.op.CoreOp.{CoreOp}
use Rattle.fk_core.specs.Next.{behind_jump}
use Rattle.fk_core.specs.Numbers.{operation_of}
use Rattle.fk_asm.specs.Assembly.{Assembly, empty}
use Rattle.fk_asm.specs.Block.{MarkedLine, with_block}
use Rattle.fk_core_liveness.specs.declared.set.Set.{Set}
use Rattle.fk_core_liveness.specs.Sets.{is_in}
use Rattle.fk_gen.specs.declared.placed.Levels.{Levels}
use Rattle.fk_gen.specs.Levels.{levels_in}
use Rattle.fk_gen.specs.declared.placed.Placed.{Placed}
use Rattle.fk_gen.specs.Lines.{copy_label, clear_label, label_of}
use Rattle.fk_gen_access.specs.Heap.{heap_label, heap_lines}
use Rattle.fk_gen_flow.specs.Calls.{chain_lines, copy_lines, clear_lines, most_privates}
use Rattle.fk_gen_group.specs.Blocks.{start_label, start_lines}
use Rattle.fk_gen_group.specs.Splits.{one_part_label, two_parts_label, fork_label}
use Rattle.fk_gen_group.specs.Splits.{one_part_lines, two_parts_lines, fork_lines}

-- How many words there are up to the last one in a set, of those below `most`.
unfoldable pub up_to_last : (mask most : ℕ) → ℕ
up_to_last mask zero = 0
up_to_last mask (suc k) = if is_in mask k then suc k else up_to_last mask k

-- A call clears the words up to the last one in its set, if that is no argument.
abbrev pub clears_after : (arguments words : ℕ) → ℕ
clears_after arguments words = if nat_le words arguments then 0 else words

abbrev pub clears_by : Option Operation → Option Set → ℕ
clears_by (Some (Enter arguments)) (Some set) =
    clears_after arguments (up_to_last set.mask most_privates)
clears_by operation set = 0

-- The caller of a call goes on after the first jump from the next index on.
abbrev pub back_by : Option Operation → List CoreOp → (index : ℕ) → ℕ
back_by (Some (Enter arguments)) core index = behind_jump core (suc index)
back_by operation core index = 0

-- The operation at an index of a list. The words that are kept as a call begins are those at the
-- next index.
abbrev pub placed : List CoreOp → (globals : ℕ) → List Set → List Levels → (index : ℕ) → CoreOp
    → Placed
placed core globals kept saved index op =
    record {
      op = op;
      globals = globals;
      clears = clears_by (operation_of op.kind op.number) (slice_get kept (suc index));
      back = back_by (operation_of op.kind op.number) core index;
      levels = levels_in saved index;
    }

abbrev pub placed_from : List CoreOp → (globals : ℕ) → List Set → List Levels → (index : ℕ)
    → List CoreOp → List Placed
placed_from core globals kept saved index [] = []
placed_from core globals kept saved index (op ∷ ops) =
    placed core globals kept saved index op ∷ placed_from core globals kept saved (suc index) ops

-- All operations of a list.
abbrev pub all_placed : (globals : ℕ) → List Set → List Levels → List CoreOp → List Placed
all_placed globals kept saved ops = placed_from ops globals kept saved 0 ops

-- The word where the block of an index begins, given the word where the first one begins. The index
-- after the list gives the word where the last block ends.
abbrev pub place : (Placed → List MarkedLine) → (first : ℕ) → List Placed → (index : ℕ) → ℕ
place block first ops index = first + length (flat_map block (take index ops))

-- An assembler to which the blocks of a list were added, each after its label.
pub record AddsBlocks (block : Placed → List MarkedLine) (ops : List Placed)
    (old new : Assembly) : Type 0 where
  pub made : new ≡ record (with_block old (flat_map block ops)) { bound = new.bound }
  pub count : length new.bound ≡ length old.bound
  pub labels : (i : ℕ) → i < length ops
      → slice_index_or new.bound (label_of i) None ≡ Some (place block (length old.lines) ops i)
  pub others : (label : ℕ) → label < label_of 0
      → slice_index_or new.bound label None ≡ slice_index_or old.bound label None

-- An assembler to which a chain was added. The label of n parts is bound `offset n` words after the
-- chain's beginning.
pub record AddsChain (label offset : ℕ → ℕ) (part : ℕ → List MarkedLine)
    (old new : Assembly) : Type 0 where
  pub made : new ≡ record (with_block old (chain_lines part most_privates)) { bound = new.bound }
  pub count : length new.bound ≡ length old.bound
  pub entries : (n : ℕ) → n ≤ most_privates
      → slice_index_or new.bound (label n) None ≡ Some (length old.lines + offset n)
  pub others : (other : ℕ) → ((n : ℕ) → n ≤ most_privates → other ≡ label n → ⊥)
      → slice_index_or new.bound other None ≡ slice_index_or old.bound other None

-- The two chains of the code that all calls share: one copies arguments, two words for each, and
-- one clears private words, one word for each.
abbrev pub copy_offset : (arguments : ℕ) → ℕ
copy_offset arguments = 2 * (most_privates - arguments)

abbrev pub clear_offset : (words : ℕ) → ℕ
clear_offset words = most_privates - words

abbrev pub AddsCopying : (old new : Assembly) → Type 0
AddsCopying old new = AddsChain copy_label copy_offset copy_lines old new

abbrev pub AddsClearing : (old new : Assembly) → Type 0
AddsClearing old new = AddsChain clear_label clear_offset clear_lines old new

abbrev pub copying_lines : List MarkedLine
copying_lines = chain_lines copy_lines most_privates

abbrev pub clearing_lines : List MarkedLine
clearing_lines = chain_lines clear_lines most_privates

-- An assembler to which code was added that has one label, bound where the code begins.
abbrev pub AddsLabelled : (label : ℕ) → List MarkedLine → (old new : Assembly) → Type 0
AddsLabelled label lines old new =
    new
    ≡ with_block (record old { bound = slice_set old.bound label (Some (length old.lines)) }) lines

-- The code that all beginnings of `start` share, the code that all blocks of `shmalloc` share, for
-- an image with this many words of globals, and the code that splits share.
abbrev pub AddsStart : (globals : ℕ) → (old new : Assembly) → Type 0
AddsStart globals old new = AddsLabelled start_label (start_lines globals) old new

abbrev pub AddsHeap : (globals : ℕ) → (old new : Assembly) → Type 0
AddsHeap globals old new = AddsLabelled heap_label (heap_lines globals) old new

abbrev pub AddsOnePart : (old new : Assembly) → Type 0
AddsOnePart old new = AddsLabelled one_part_label one_part_lines old new

abbrev pub AddsTwoParts : (old new : Assembly) → Type 0
AddsTwoParts old new = AddsLabelled two_parts_label two_parts_lines old new

abbrev pub AddsFork : (old new : Assembly) → Type 0
AddsFork old new = AddsLabelled fork_label fork_lines old new

-- The lines before the code of `start`, those before the code of `shmalloc`, those before the code
-- of splits into one part, into two and by a `fork`, those before the blocks, and all lines of the
-- code.
abbrev pub calls_front : (opening : List MarkedLine) → List MarkedLine
calls_front opening = (opening ++ copying_lines) ++ clearing_lines

abbrev pub start_front : (opening : List MarkedLine) → (globals : ℕ) → List MarkedLine
start_front opening globals = calls_front opening ++ start_lines globals

abbrev pub heap_front : (opening : List MarkedLine) → (globals : ℕ) → List MarkedLine
heap_front opening globals = start_front opening globals ++ heap_lines globals

abbrev pub part_front : (opening : List MarkedLine) → (globals : ℕ) → List MarkedLine
part_front opening globals = heap_front opening globals ++ one_part_lines

abbrev pub fork_front : (opening : List MarkedLine) → (globals : ℕ) → List MarkedLine
fork_front opening globals = part_front opening globals ++ two_parts_lines

abbrev pub front : (opening : List MarkedLine) → (globals : ℕ) → List MarkedLine
front opening globals = fork_front opening globals ++ fork_lines

abbrev pub all_lines : (Placed → List MarkedLine) → (opening : List MarkedLine) → (globals : ℕ)
    → List Placed → List MarkedLine
all_lines block opening globals ops = front opening globals ++ flat_map block ops

-- A label below those of blocks, which no shared code has.
pub record IsSpare (label : ℕ) : Type 0 where
  pub low : label < label_of 0
  pub no_copy : (n : ℕ) → n ≤ most_privates → label ≡ copy_label n → ⊥
  pub no_start : label ≡ start_label → ⊥
  pub no_heap : label ≡ heap_label → ⊥
  pub no_part : label ≡ one_part_label → ⊥
  pub no_parts : label ≡ two_parts_label → ⊥
  pub no_fork : label ≡ fork_label → ⊥
  pub no_clear : (n : ℕ) → n ≤ most_privates → label ≡ clear_label n → ⊥

-- An assembler with all of the code.
pub record IsLaid (block : Placed → List MarkedLine) (opening : List MarkedLine) (globals : ℕ)
    (ops : List Placed) (a : Assembly) : Type 0 where
  pub made : a ≡ record (with_block empty (all_lines block opening globals ops)) { bound = a.bound }
  pub count : length a.bound ≡ label_of (length ops)
  pub copies : (n : ℕ) → n ≤ most_privates
      → slice_index_or a.bound (copy_label n) None ≡ Some (length opening + copy_offset n)
  pub clears : (n : ℕ) → n ≤ most_privates
      → slice_index_or a.bound (clear_label n) None
      ≡ Some (length (opening ++ copying_lines) + clear_offset n)
  pub starts : slice_index_or a.bound start_label None ≡ Some (length (calls_front opening))
  pub hires : slice_index_or a.bound heap_label None ≡ Some (length (start_front opening globals))
  pub divides : slice_index_or a.bound one_part_label None
      ≡ Some (length (heap_front opening globals))
  pub halves : slice_index_or a.bound two_parts_label None
      ≡ Some (length (part_front opening globals))
  pub forks : slice_index_or a.bound fork_label None
      ≡ Some (length (fork_front opening globals))
  pub spare : (label : ℕ) → IsSpare label → slice_index_or a.bound label None ≡ None
  pub labels : (i : ℕ) → i < length ops
      → slice_index_or a.bound (label_of i) None
      ≡ Some (place block (length (front opening globals)) ops i)
