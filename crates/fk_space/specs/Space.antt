-- Spaces of groups in the shared words, and the heap that serves all processors.
use Rattle.std.specs.Prelude.{ℕ, ◌+◌, ◌-◌, ◌*◌, ◌/◌, ◌^◌, ◌≤◌, nat_le, nat_lt, Option, Some, None}
use Rattle.std.specs.Prelude.{if◌then◌else◌}

-- a range of words: a header of 8 words, then the frames taken so far, the free words, and the
-- blocks
pub record Space : Type 0 where
  pub low : ℕ
  pub high : ℕ
  pub frames : ℕ
  pub blocks : ℕ

-- the frames lie after the header, the blocks after the frames, and all of them in the 2^20 shared
-- words
pub record IsSpace (s : Space) : Type 0 where
  pub header : s.low + 8 ≤ s.frames
  pub ordered : s.frames ≤ s.blocks
  pub within : s.blocks ≤ s.high
  pub shared : s.high ≤ 2 ^ 20

-- a space of `words` words with nothing taken
abbrev pub whole : (low words : ℕ) → Space
whole low words = record { low = low; high = low + words; frames = low + 8; blocks = low + words }

abbrev pub free : Space → ℕ
free s = s.blocks - s.frames

-- the share of each of k parts: 4 words for each part are kept back, and the rest is divided evenly
abbrev pub equal_part : Space → (k : ℕ) → ℕ
equal_part s k = (free s - 4 * k) / k

-- there are no parts if the words kept back aren't free, or if a part gets fewer than 16 words
abbrev pub share : Space → (k : ℕ) → Option ℕ
share s k = if nat_lt (free s) (4 * k) then None else if nat_lt (equal_part s k) 16 then None
    else Some (equal_part s k)

-- part i lies directly after part i - 1, and the first part after the words kept back
abbrev pub child : Space → (k i : ℕ) → Space
child s k i = whole (s.frames + 4 * k + i * equal_part s k) (equal_part s k)

-- a frame is taken upwards
abbrev pub frame : Space → (words : ℕ) → Option Space
frame s words = if nat_lt (free s) words then None
    else Some (record s { frames = s.frames + words })

-- a block is taken downwards: its first word, and the space after it
abbrev pub block : Space → (words : ℕ) → Option (ℕ × Space)
block s words = if nat_lt (free s) words then None
    else Some (s.blocks - words, record s { blocks = s.blocks - words })

-- a block of a heap that only grows: the new top, and the block's first word. If it doesn't fit,
-- the heap is full from then on
abbrev pub heap : (top limit words : ℕ) → ℕ × Option ℕ
heap top limit words = if nat_le words (limit - top) then (top + words, Some top) else (limit, None)
