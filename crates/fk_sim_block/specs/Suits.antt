-- Lists that suit frames: words that are read were kept or written, and values have room beside the
-- words that are kept.
use Rattle.std.specs.Prelude.{◌≡◌, ℕ, zero, suc, ◌+◌, ◌-◌, ◌^◌, ◌==◌, ◌<◌, ◌≤◌, List, [], slice_get}
use Rattle.std.specs.Prelude.{Bool, true, false, Some, ◌||◌}
use Rattle.fk_meaning_operation.specs.declared.operation.OwnValue.{OwnValue}
use Rattle.fk_meaning_operation.specs.declared.operation.OwnValue.TheVariants.{Value, FrameAddress}
use Rattle.fk_meaning_operation.specs.declared.operation.Operation.{Operation}
use Rattle.fk_meaning_operation.specs.declared.operation.Operation.TheVariants.{Push, Get, Set}
use Rattle.fk_meaning_operation.specs.declared.operation.Operation.TheVariants.{DropLast, CopyLast}
use Rattle.fk_meaning_operation.specs.declared.operation.Operation.TheVariants.{Apply, Binary}
use Rattle.fk_meaning_operation.specs.declared.operation.Operation.TheVariants.{Index, Branch, Take}
use Rattle.fk_meaning_operation.specs.declared.operation.Operation.TheVariants.{Leave, Check, Read}
use Rattle.fk_meaning_operation.specs.declared.operation.Operation.TheVariants.{Write, Combine}
use Rattle.fk_meaning_operation.specs.declared.operation.Operation.TheVariants.{PrintNumber}
use Rattle.fk_meaning_operation.specs.declared.operation.Operation.TheVariants.{PrintByte, Enter}
use Rattle.fk_meaning_operation.specs.declared.operation.Operation.TheVariants.{Heap, Frame, Block}
use Rattle.fk_meaning_operation.specs.declared.operation.Operation.TheVariants.{Halt}
use Rattle.fk_meaning_operation.specs.declared.operation.Variable.TheVariants.{Private, OfFile}
use Rattle.fk_core.specs.declared.op.CoreOp.{CoreOp}
use Rattle.fk_core.specs.Next.{is_jump, behind_jump, follows}
use Rattle.fk_sim_block.specs.Next.{OpAt}
use Rattle.fk_sim_block.specs.Stands.{Frames, HasRoom, ahead}

-- How many values an operation looks at.
abbrev pub looks_at : Operation → ℕ
looks_at (Set variable) = 1
looks_at DropLast = 1
looks_at CopyLast = 1
looks_at (Apply sign) = 1
looks_at (Binary sign turned) = 2
looks_at (Index size) = 2
looks_at (Branch onward) = 1
looks_at Take = 1
looks_at (Leave true framed) = 1
looks_at (Check shared_alone) = 1
looks_at Read = 1
looks_at Write = 2
looks_at (Combine by) = 2
looks_at PrintNumber = 1
looks_at PrintByte = 1
looks_at (Enter arguments) = arguments
looks_at Heap = 1
looks_at Block = 1
looks_at operation = 0

-- Which private words of the call an operation writes.
abbrev pub writes : Operation → (word : ℕ) → Bool
writes (Set (Private i)) word = word == i
writes operation word = false

abbrev pub nothing : (word : ℕ) → Bool
nothing word = false

module _ (core : List CoreOp) (frames : Frames) where
  -- The call goes on from index i at index j. What is kept at j was kept at i, or is written
  -- meanwhile. It has its own group frame at j exactly if it had it at i.
  pub record Flows (written : (word : ℕ) → Bool) (i j : ℕ) : Type 0 where
    pub main : frames.is_main j ≡ frames.is_main i
    pub kept : (word : ℕ) → frames.keeps j word ≡ true → written word ≡ false
        → frames.keeps i word ≡ true
    pub group : frames.group j ≡ frames.group i

  -- The call takes the group frame with a number at index i, and goes on at index j. Its own one it
  -- takes once.
  pub record TakesFrame (number i j : ℕ) : Type 0 where
    pub main : frames.is_main j ≡ frames.is_main i
    pub kept : (word : ℕ) → frames.keeps j word ≡ true → frames.keeps i word ≡ true
    pub none : number ≡ 0 → frames.group i ≡ false
    pub group : frames.group j ≡ ((number == 0) || frames.group i)

  -- A call begins at the next index. Its frame has room for the private words that are kept there:
  -- its arguments, and others, which begin as 0. The caller goes on after the first jump from there
  -- on, and its frame has room for a result in place of the arguments.
  pub record Calls (arguments i depth : ℕ) : Type 0 where
    pub few : arguments ≤ 56
    pub inside : frames.is_main (suc i) ≡ false
    pub none : frames.group (suc i) ≡ false
    pub kept : (word : ℕ) → frames.keeps (suc i) word ≡ true → word < 56
    pub back : Flows nothing i (behind_jump core (suc i))
    pub room : HasRoom frames (behind_jump core (suc i)) (suc (depth - arguments))

  -- Where the call goes on after an operation.
  abbrev pub GoesOn : Operation → (i target depth : ℕ) → Type 0
  GoesOn (Enter arguments) i target depth = Calls arguments i depth
  GoesOn (Leave gives framed) i target depth = frames.is_main i ≡ false
  GoesOn Halt i target depth = frames.is_main i ≡ true
  GoesOn (Frame number words) i target depth = TakesFrame number i (suc i)
  GoesOn operation i target depth = (onward : Bool)
      → Flows (writes operation) i (follows core operation i target [] onward).at

  -- A word that is read is there, and so is the function's own group frame where it is used. A call
  -- that ends gives its own one back, if it has one. A word that is written lies below the values,
  -- and there is room for a value that is pushed (`HasPlace`). The words of frames have numbers in
  -- lists.
  abbrev pub IsThere : OwnValue → (i : ℕ) → Type 0
  IsThere (Value (Private word)) i = frames.keeps i word ≡ true
  IsThere (Value (OfFile word)) i = word < frames.of_file
  IsThere (FrameAddress zero word) i = (frames.group i ≡ true) × (word < 2 ^ 21)
  IsThere (FrameAddress (suc part) word) i = word < 2 ^ 21
  IsThere known i = Unit {0}

  abbrev pub HasPlace : Operation → (i depth : ℕ) → Type 0
  HasPlace (Push n) i depth = HasRoom frames i (suc depth)
  HasPlace CopyLast i depth = HasRoom frames i (suc depth)
  HasPlace (Get known) i depth = IsThere known i × HasRoom frames i (suc depth)
  HasPlace (Set (Private word)) i depth = ahead frames (frames.is_main i) + 7 + word + depth < 64
  HasPlace (Set (OfFile word)) i depth = word < frames.of_file
  HasPlace (Leave gives framed) i depth = frames.group i ≡ framed
  HasPlace (Frame number words) i depth = words < 2 ^ 21
  HasPlace operation i depth = Unit {0}

  pub record Fits (i : ℕ) (op : CoreOp) (operation : Operation) : Type 0 where
    pub values : looks_at operation ≤ op.depth
    pub few : op.depth ≤ 56
    pub room : HasRoom frames i op.depth
    pub place : HasPlace operation i op.depth
    pub goes_on : GoesOn operation i op.target op.depth

  -- The list suits its frames: all its jumps and operations do, and `main` begins at this index.
  pub record Suits (main : ℕ) : Type 0 where
    pub begins : frames.is_main main ≡ true
    pub none : frames.group main ≡ false
    pub few : frames.of_file ≤ 56
    pub jumps : (i : ℕ) (op : CoreOp) → slice_get core i ≡ Some op → is_jump op ≡ true
        → Flows nothing i op.target
    pub fits : (i : ℕ) (op : CoreOp) (operation : Operation) → OpAt core i op operation
        → Fits i op operation
