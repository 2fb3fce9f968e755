-- What a request makes of the count of words asked for, which all harts share, and of its hart's
-- note that the heap is full. Sums are of words of 32 bits, as harts make them.
use Rattle.std.specs.Prelude.{ℕ, ◌+◌, ◌^◌, ◌==◌, ◌||◌, nat_lt, min, Bool, true, false}
use Rattle.std.specs.Prelude.{if◌then◌else◌}
use Rattle.fk_num.specs.Word.{word, word_sum}
use Rattle.fk_meaning_store.specs.Store.{shared_words, address_of}

-- The control word that counts the words asked for. It lies after those of the root's header.
abbrev pub asked_word : ℕ
asked_word = 2 ^ 20 + 8

-- The words that a request adds to the count. A hart that has found the heap full adds none. No
-- request adds more words than shared data has: the heap has fewer, so none of that size fits.
abbrev pub added_by : (full : Bool) → (words : ℕ) → ℕ
added_by true words = 0
added_by false words = min words shared_words

-- Whether a count is past the end of a heap that begins at the word `first`.
abbrev pub is_past : (first count : ℕ) → Bool
is_past first count = nat_lt shared_words (word_sum first count)

-- The address of the block that a request gets which adds to a count, or 0 if it adds nothing or
-- the block doesn't fit.
abbrev pub block_at : (first count added : ℕ) → ℕ
block_at first count added =
    if (added == 0) || is_past first (word_sum count added) then 0
    else word (address_of (word_sum first count))
