-- Where a hart finds the control words of its node, and what it keeps of the groups around it.
use Rattle.std.specs.Prelude.{◌≡◌, ℕ, zero, suc, ◌+◌, ◌-◌, ◌*◌, ◌^◌, ◌<◌, ◌≤◌, ◌==◌, List, [], ◌∷◌}
use Rattle.std.specs.Prelude.{length, Bool, true, Option, Some, None, IfSome}
use Rattle.fk_num.specs.Word.{Memory}
use Rattle.fk_space.specs.Space.{Space}
use Rattle.fk_meaning.specs.Processor.{Call, Level, Setting}
use Rattle.fk_machine.specs.Hart.{Hart}
use Rattle.fk_sim_nodes.specs.Node.{Words, AreApart}
use Rattle.fk_sim_heap.specs.Count.{asked_word}
use Rattle.fk_sim_block.specs.Owner.{Owner, number_of}
use Rattle.fk_sim_block.specs.Stands.{Frames, Places, ahead, frame_start, frame_end}

-- ---- the control words of a node

-- The control words of the root lie after all words of shared data.
abbrev pub root_words : ℕ
root_words = 2 ^ 20

-- The first control word of a group has the index at which the group's space begins. The root has
-- no group around it.
abbrev pub first_word : Level → (outer : List Level) → ℕ
first_word level [] = root_words
first_word level (o ∷ outer) = level.space.low

-- The control words of a node, from its first one on: how many members have arrived at a `barrier`;
-- how many at the end of a body, of a part or of the group of `start`; and the agreed value.
abbrev pub barrier_word : ℕ
barrier_word = 0

abbrev pub closing_word : ℕ
closing_word = 1

abbrev pub agreed_word : ℕ
agreed_word = 2

-- The address of a control word.
abbrev pub control_address : (word : ℕ) → ℕ
control_address word = 0x18000000 + 4 * word

-- A node owns its header of 8 words. The word that counts the words asked for is nobody's own.
pub record OwnsHeader (mine : Words) (first : ℕ) : Type 0 where
  pub within : first + 8 ≤ root_words + 64
  pub own : (word : ℕ) → word < 8 → mine (first + word) ≡ true
  pub apart : AreApart mine (λ word. word == asked_word)

-- A group that doesn't wait owns all words of its space, with those of the parts to come.
pub record OwnsSpace (mine : Words) (space : Space) : Type 0 where
  pub own : (word : ℕ) → space.low ≤ word → word < space.high → mine word ≡ true

-- Nobody has arrived at an arrival word of the node.
pub record IsAtRest (first : ℕ) (own : Memory) : Type 0 where
  pub barrier : own (first + barrier_word) ≡ 0
  pub closing : own (first + closing_word) ≡ 0

-- ---- what a hart has of its node and of the groups around it

-- Registers of a hart: the address of its node's first control word; how many members run the body
-- of an asynchronous node; and, in its group's space, the addresses of the first control word after
-- the frames, and of that of the first block.
abbrev pub node_register : ℕ
node_register = 10

abbrev pub body_register : ℕ
body_register = 11

abbrev pub frames_register : ℕ
frames_register = 12

abbrev pub blocks_register : ℕ
blocks_register = 13

-- Where in the code a hart polls, and which registers change while it does.
pub record Polling : Type 0 where
  pub at : ℕ
  pub changes : (register : ℕ) → Bool

-- Where the harts that begin the group of `start` poll, by the index of that operation, and what
-- the instructions before that make of a hart.
pub record Gathering : Type 0 where
  pub there : (index : ℕ) → Polling
  pub coming : (index : ℕ) → Hart → Hart

-- Where the frames have the levels around a processor. The outermost level is the root's, and needs
-- no words.
pub record Nestings : Type 0 where
  -- The number of levels in the frame of a call that goes on at an index.
  pub levels : (index : ℕ) → ℕ
  -- The word after the header of that frame at which the first of these levels begins.
  pub behind : (index : ℕ) → ℕ
  -- In how many parts the call is, with the group of `start` among them.
  pub nest : (index : ℕ) → ℕ
  -- Whether a `fork` left the level with a number, the first of them having the number 0; and how
  -- many words the frame of the group that it divided has, if that group is a part of this call.
  pub forks : (index level : ℕ) → Option ℕ
  -- Where processors meet that begin the group of `start`.
  pub start : Gathering

-- The levels of a call have room in its frame, after its private words and beside this many values.
pub record HasLevelRoom (frames : Frames) (nestings : Nestings) (index values : ℕ) : Type 0 where
  pub room : ahead frames (frames.is_main index) + 7 + nestings.behind index
      + 4 * nestings.levels index + values ≤ 64
  pub apart : 0 < nestings.levels index → (word : ℕ) → frames.keeps index word ≡ true
      → word < nestings.behind index

-- The root's level: `@` is 0, and `$` is the number of the processor.
pub record IsRoot (processors processor : ℕ) (level : Level) : Type 0 where
  pub number : level.number ≡ 0
  pub rank : level.rank ≡ processor
  pub size : level.size ≡ processors

-- A level has four words: the size of the group, and the addresses of its node's first control
-- word, of that of its first block, and of the first one after its frames. `@` and `$` stay in a
-- part of any split but a `fork`.
pub record HasLevel (memory : Memory) (at : ℕ) (level : Level) (outer : List Level) : Type 0 where
  pub size : memory at ≡ level.size
  pub node : memory (at + 1) ≡ control_address (first_word level outer)
  pub blocks : memory (at + 2) ≡ control_address level.space.blocks
  pub frames : memory (at + 3) ≡ control_address level.space.frames

-- The word of the header of a call where a `fork` that leaves the first level of this call saves
-- the address of the first control word after the frames.
abbrev pub frames_word : (waiting : ℕ) → ℕ
frames_word waiting = frame_end waiting - 60

-- Where the frames end of a group that a `fork` divided. The first level of a call has a word of
-- the header for it. The group of any other is a part of the call. It has one frame, of so many
-- words.
abbrev pub HasFramesEnd : Memory → (header number words : ℕ) → Level → (outer : List Level) → Type 0
HasFramesEnd memory header zero words level outer =
    memory header ≡ control_address level.space.frames
HasFramesEnd memory header (suc n) words level outer =
    level.space.frames ≡ first_word level outer + 8 + words

-- A level that a `fork` left has `@` and `$` too: the first beside the size, which is below 2048,
-- and the second in place of where the frames end.
pub record HasForked (memory : Memory) (header at number words : ℕ) (level : Level)
    (outer : List Level) : Type 0 where
  pub size : memory at ≡ level.size + 2048 * level.number
  pub few : level.size < 2048
  pub node : memory (at + 1) ≡ control_address (first_word level outer)
  pub blocks : memory (at + 2) ≡ control_address level.space.blocks
  pub rank : memory (at + 3) ≡ level.rank
  pub frames : HasFramesEnd memory header number words level outer

abbrev pub HasLevelBy : Option ℕ → Memory → (header at number : ℕ) → Level → (outer : List Level)
    → Type 0
HasLevelBy None memory header at number level outer = HasLevel memory at level outer
HasLevelBy (Some words) memory header at number level outer =
    HasForked memory header at number words level outer

-- `count` levels of a frame from a word on. The innermost level has the highest words and the
-- highest number.
abbrev pub HasSaved : Memory → (forks : ℕ → Option ℕ) → (header at count : ℕ) → List Level → Type 0
HasSaved memory forks header at zero levels = Unit {0}
HasSaved memory forks header at (suc n) [] = ⊥
HasSaved memory forks header at (suc n) (l ∷ levels) =
    HasLevelBy (forks n) memory header (at + 4 * n) n l levels
    × HasSaved memory forks header at n levels

abbrev pub past_levels : (count : ℕ) → List Level → List Level
past_levels zero levels = levels
past_levels (suc n) [] = []
past_levels (suc n) (l ∷ levels) = past_levels n levels

abbrev pub IsOutermost : (processors number : ℕ) → List Level → Type 0
IsOutermost processors number [] = Unit {0}
IsOutermost processors number (l ∷ []) = IsRoot processors number l
IsOutermost processors number (l ∷ m ∷ levels) = ⊥

-- The space of a group as a hart has it: the addresses of the first control word after the frames,
-- and of that of the first block.
abbrev pub space_frames : Hart → ℕ
space_frames h = h.registers frames_register

abbrev pub space_blocks : Hart → ℕ
space_blocks h = h.registers blocks_register

-- A hart knows the space of its group. In the root there is no group.
abbrev pub KnowsSpace : Level → (outer : List Level) → Hart → Type 0
KnowsSpace level [] h = Unit {0}
KnowsSpace level (o ∷ outer) h =
    (space_frames h ≡ control_address level.space.frames)
    × (space_blocks h ≡ control_address level.space.blocks)

module _ (places : Places) (nestings : Nestings) where
  -- The first word of the levels of a frame, where `waiting` other calls wait.
  abbrev pub saved_at : (waiting index : ℕ) → ℕ
  saved_at waiting index = frame_start places waiting + 7 + nestings.behind index

  -- The levels around the running one, innermost first. The frame of each call has those that the
  -- index where it goes on tells, the running call's frame first. At most the root's level remains.
  abbrev pub HasOuter : (processors number : ℕ) → Memory → (indices : List ℕ) → List Level → Type 0
  HasOuter processors number memory [] levels = IsOutermost processors number levels
  HasOuter processors number memory (i ∷ indices) levels =
      (saved_at (length indices) i + 4 * nestings.levels i ≤ frame_end (length indices))
      × HasSaved memory (nestings.forks i) (frames_word (length indices))
      (saved_at (length indices) i) (nestings.levels i) levels
      × HasOuter processors number memory indices (past_levels (nestings.levels i) levels)

  -- The levels in the frame of a waiting call lie below its values and the word that takes its
  -- result.
  abbrev pub LieBelow : (indices : List ℕ) → List Call → Type 0
  LieBelow [] [] = Unit {0}
  LieBelow (i ∷ indices) (c ∷ calls) =
      (saved_at (length calls) i + 4 * nestings.levels i + suc (length c.values)
      ≤ frame_end (length calls)) × LieBelow indices calls
  LieBelow indices calls = ⊥

  -- The levels around a processor are in the frames of its calls. The running call is at an index,
  -- and the others wait.
  abbrev pub HasNestings : (processors number : ℕ) → Memory → (at : ℕ) → (callers : List ℕ)
      → List Call → List Level → Type 0
  HasNestings processors number memory at callers calls levels =
      HasOuter processors number memory (at ∷ callers) levels × LieBelow callers calls

  -- A hart is in the node of its processor. If that processor runs the body of an asynchronous
  -- node, a register of the hart has the number of members that run it.
  pub record StandsInNode (setting : Setting) (runs : Option ℕ) (p : Owner)
      (h : Hart) : Type 0 where
    pub node : h.registers node_register
        ≡ control_address (first_word p.runner.has.level p.runner.has.outer)
    pub body : IfSome runs (λ n. h.registers body_register ≡ n)
    pub space : KnowsSpace p.runner.has.level p.runner.has.outer h
    pub outer : HasNestings setting.processors (number_of p) h.local p.runner.left.at
        p.runner.left.callers p.runner.has.callers p.runner.has.outer
