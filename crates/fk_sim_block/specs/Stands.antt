-- When the registers and the local memory of a hart stand for a processor.
--
-- Calls have frames of 64 words on the 16,384 stack words, that of `main` lowest. A frame has a
-- header of 7 words, then the private words of its call. Its values are at the frame's end, the
-- first value highest. In the frame of `main` the private variables of file scope lie between the
-- two. If a call took a group frame of its own, its header keeps the address of the one before it.
-- One word of the header of `main` has a note about the global heap, and the others are free for
-- any use.
use Rattle.std.specs.Prelude.{◌≡◌, ℕ, zero, suc, ◌+◌, ◌-◌, ◌*◌, ◌^◌, ◌<◌, ◌≤◌, ◌==◌, List, []}
use Rattle.std.specs.Prelude.{◌∷◌, length, true, false, Bool, Option, Some}
use Rattle.std.specs.Int.{from_bool}
use Rattle.fk_num.specs.Word.{Memory}
use Rattle.fk_meaning_store.specs.Store.{address_of}
use Rattle.fk_meaning.specs.Processor.{Call}
use Rattle.fk_machine.specs.Hart.{Hart}
use Rattle.fk_sim_block.specs.Owner.{Owner}

-- What the frames of calls have.
pub record Frames : Type 0 where
  -- Whether the frame of the running call keeps a private word at an index of the list. A word that
  -- is not kept is written before it is read. Where a call begins, the kept words are its arguments
  -- or 0.
  pub keeps : (index word : ℕ) → Bool
  -- Whether an index is in `main`.
  pub is_main : (index : ℕ) → Bool
  -- Whether the call has taken, at an index, the function's own group frame, which has number 0.
  -- Others are those of parts, which harts find by the nodes of groups.
  pub group : (index : ℕ) → Bool
  -- The number of private variables of file scope.
  pub of_file : ℕ

-- Where a call returns: to a word of the code, which leads to the block of an index.
pub record ReturnPoint : Type 0 where
  pub word : ℕ
  pub index : ℕ

-- Where blocks and variables lie, and where calls return.
pub record Places : Type 0 where
  -- The word of the code where the block of each index of the list begins.
  pub block : (index : ℕ) → ℕ
  -- Where a call returns that the operation at an index begins.
  pub returns : (index : ℕ) → Option ReturnPoint
  pub frames : Frames

-- The address of a word of the local memory.
abbrev pub local_address : (word : ℕ) → ℕ
local_address word = 0x20000000 + 4 * word

-- The register that stays 0.
abbrev pub zero_register : ℕ
zero_register = 0

-- The registers of a hart: the address of the running call's frame, and of the word after that
-- frame; `@`, `$` and the size of the group; how many words of the private heap are taken; and six
-- that never change: the addresses of the local memory, of shared data, of the private heap and of
-- the devices, and two masks. An address is that of a word of shared data exactly if its bits under
-- the mask of shared data are the address of shared data. The other mask does this for the private
-- heap.
abbrev pub frame_register : ℕ
frame_register = 8

abbrev pub end_register : ℕ
end_register = 9

abbrev pub number_register : ℕ
number_register = 18

abbrev pub rank_register : ℕ
rank_register = 19

abbrev pub size_register : ℕ
size_register = 20

abbrev pub top_register : ℕ
top_register = 21

abbrev pub local_register : ℕ
local_register = 22

abbrev pub shared_register : ℕ
shared_register = 23

abbrev pub heap_register : ℕ
heap_register = 24

abbrev pub shared_mask_register : ℕ
shared_mask_register = 25

abbrev pub device_register : ℕ
device_register = 26

abbrev pub heap_mask_register : ℕ
heap_mask_register = 27

-- The register with the address of a function's own group frame: that of the running call, or, if
-- it has none, that of the last waiting call that has one.
abbrev pub group_frame_register : ℕ
group_frame_register = 14

-- The word of local memory that is 1 once the hart has found the global heap full. It lies in the
-- header of the frame of `main`.
abbrev pub full_word : ℕ
full_word = 2

-- The values of a call are at their places. The first value has place 1, and the last one the
-- highest.
abbrev pub HasValues : (at : (place : ℕ) → ℕ) → List ℕ → Type 0
HasValues at [] = Unit {0}
HasValues at (v ∷ vs) = (at (suc (length vs)) ≡ v) × HasValues at vs

-- The word after the frame of a call for which `waiting` other calls wait.
abbrev pub frame_end : (waiting : ℕ) → ℕ
frame_end waiting = 64 * suc waiting

-- The value at a place of a call, in memory: values lie below the end of the frame, the last one
-- lowest.
abbrev pub value_of : Memory → (waiting place : ℕ) → ℕ
value_of memory waiting place = memory (frame_end waiting - place)

-- The value at a place of the running call, in a hart.
abbrev pub value_in : Hart → (waiting place : ℕ) → ℕ
value_in h waiting = value_of h.local waiting

-- How many words lie between the header and the private words of a frame: in that of `main` the
-- private variables of file scope, in others none.
abbrev pub ahead : Frames → (is_main : Bool) → ℕ
ahead frames true = frames.of_file
ahead frames false = 0

-- A frame has room for its header and this many values, beside the words that it keeps at an index.
pub record HasRoom (frames : Frames) (index values : ℕ) : Type 0 where
  pub header : ahead frames (frames.is_main index) + 7 + values ≤ 64
  pub kept : (word : ℕ) → frames.keeps index word ≡ true
      → ahead frames (frames.is_main index) + 7 + word + values < 64

-- The word of the header that keeps what the register had before the call took its own group frame.
abbrev pub group_word : (waiting : ℕ) → ℕ
group_word waiting = frame_end waiting - 61

-- An address is that of a group frame, whose first word has this index.
pub record IsGroupFrame (address first : ℕ) : Type 0 where
  pub within : first ≤ 2 ^ 20
  pub is : address ≡ address_of first

-- The address is that of the call's own group frame, if the call has one.
abbrev pub TellsFrame : (own : Bool) → (address : ℕ) → Call → Type 0
TellsFrame true address call = IsGroupFrame address (call.frames 0)
TellsFrame false address call = Unit {0}

-- What the register had before a call: what it has, or, where the call took its own group frame,
-- what its header keeps.
abbrev pub before_call : (own : Bool) → (address kept : ℕ) → ℕ
before_call true address kept = kept
before_call false address kept = address

-- The register has the address of the own group frame of the first of these calls, and it had those
-- of the others before. The calls are the running one and those that wait, the last one first, each
-- with the index where it goes on.
abbrev pub HaveGroupFrames : Frames → Memory → (address : ℕ) → (indices : List ℕ) → List Call
    → Type 0
HaveGroupFrames frames memory address [] calls = Unit {0}
HaveGroupFrames frames memory address (i ∷ indices) [] = Unit {0}
HaveGroupFrames frames memory address (i ∷ indices) (c ∷ calls) =
    TellsFrame (frames.group i) address c
    × HaveGroupFrames frames memory
    (before_call (frames.group i) address (memory (group_word (length calls)))) indices calls

module _ (places : Places) where
  -- The word 7 words before the private words of a call for which `waiting` other calls wait. It is
  -- the first word of the frame, except in the frame of `main`, which has the private variables of
  -- file scope before its private words.
  abbrev pub frame_start : (waiting : ℕ) → ℕ
  frame_start zero = places.frames.of_file
  frame_start (suc n) = 64 * suc n

  -- A private word of a call in memory, and one of the running call in a hart.
  abbrev pub private_of : Memory → (waiting word : ℕ) → ℕ
  private_of memory waiting word = memory (frame_start waiting + 7 + word)

  abbrev pub private_in : Hart → (waiting word : ℕ) → ℕ
  private_in h waiting = private_of h.local waiting

  -- The frame of a call that goes on at an index, and for which `waiting` other calls wait. Its
  -- values and private words are where these functions find them.
  pub record HasFrame (value private : ℕ → ℕ) (waiting at : ℕ) (call : Call) : Type 0 where
    pub home : places.frames.is_main at ≡ (waiting == 0)
    pub values : HasValues value call.values
    pub privates : (i : ℕ) → places.frames.keeps at i ≡ true → private i ≡ call.privates i

  -- The header of a call: the address to which it returns, the frame of the call that waits for it,
  -- and the word where that call takes the result. The waiting call goes on at the index `back`,
  -- where its frame has room for that word.
  pub record Returns (memory : Memory) (waiting back : ℕ) (call : Call) : Type 0 where
    -- The index of the operation that began the call, and the word to which the call returns.
    pub begun_at : ℕ
    pub word : ℕ
    pub point : places.returns begun_at ≡ Some (record { word = word; index = back })
    pub code : memory (frame_start (suc waiting)) ≡ 4 * word
    pub frame : memory (frame_start (suc waiting) + 1) ≡ local_address (frame_start waiting)
    pub result : memory (frame_start (suc waiting) + 2)
        ≡ local_address (frame_end waiting - suc (length call.values))
    pub room : HasRoom places.frames back (suc (length call.values))

  -- The frame of a call that waits is in memory.
  abbrev pub FrameInMemory : Memory → (waiting at : ℕ) → Call → Type 0
  FrameInMemory memory waiting at call =
      HasFrame (value_of memory waiting) (private_of memory waiting) waiting at call

  -- The frame of the running call is in a hart.
  abbrev pub FrameInHart : Hart → (waiting at : ℕ) → Call → Type 0
  FrameInHart h waiting at call =
      HasFrame (value_in h waiting) (private_in h waiting) waiting at call

  -- The frames and headers of the waiting calls, the last call first, each with the index where it
  -- goes on.
  abbrev pub HasWaiting : Memory → (backs : List ℕ) → List Call → Type 0
  HasWaiting memory [] [] = Unit {0}
  HasWaiting memory (i ∷ backs) (c ∷ calls) =
      Returns memory (length calls) i c × FrameInMemory memory (length calls) i c
      × HasWaiting memory backs calls
  HasWaiting memory backs calls = ⊥

  -- A hart stands for a processor. This says nothing of the pc and of other registers, nor of what
  -- only steps of the tree give a processor: the space of its group, and the groups around it.
  pub record StandsFor (p : Owner) (h : Hart) : Type 0 where
    pub nought : h.registers zero_register ≡ 0
    pub frame : h.registers frame_register
        ≡ local_address (frame_start (length p.runner.has.callers))
    pub behind : h.registers end_register ≡ local_address (frame_end (length p.runner.has.callers))
    pub number : h.registers number_register ≡ p.runner.has.level.number
    pub rank : h.registers rank_register ≡ p.runner.has.level.rank
    pub size : h.registers size_register ≡ p.runner.has.level.size
    pub top : h.registers top_register ≡ p.runner.has.top
    pub local : h.registers local_register ≡ local_address 0
    pub shared_data : h.registers shared_register ≡ 0x10000000
    pub private_heap : h.registers heap_register ≡ 0x20010000
    pub shared_mask : h.registers shared_mask_register ≡ 0xffc00003
    pub devices : h.registers device_register ≡ 0x30000000
    pub heap_mask : h.registers heap_mask_register ≡ 0xffff0003
    pub running : FrameInHart h (length p.runner.has.callers) p.runner.left.at p.runner.has.call
    pub waiting : HasWaiting h.local p.runner.left.callers p.runner.has.callers
    pub groups : HaveGroupFrames places.frames h.local (h.registers group_frame_register)
        (p.runner.left.at ∷ p.runner.left.callers) (p.runner.has.call ∷ p.runner.has.callers)
    pub own : (i : ℕ) → i < places.frames.of_file → h.local (7 + i) ≡ p.runner.has.own i
    pub heap : (i : ℕ) → i < 16384 → h.local (16384 + i) ≡ p.heap.words i
    pub full : h.local full_word ≡ from_bool p.heap.full

  -- The hart is at the beginning of the block where its processor goes on, and stands for that
  -- processor.
  pub record StandsAt (p : Owner) (h : Hart) : Type 0 where
    pub live : h.ended ≡ false
    pub at : h.pc ≡ 4 * places.block p.runner.left.at
    pub stands : StandsFor p h
