-- Laws of every split of a space, and of every heap.
use Rattle.std.specs.Prelude.{◌≡◌, ℕ, ◌+◌, ◌*◌, ◌≤◌, ◌<◌, Some, None}
use Rattle.fk_space.specs.Space.{Space, IsSpace, share, child, heap}

-- a split of a space into k parts with `words` words each
pub record IsSplit (s : Space) (k words : ℕ) : Type 0 where
  pub space : IsSpace s
  pub some : 1 ≤ k
  pub fits : share s k ≡ Some words

-- a part is a space with its share, in the free words of the parent after those kept back. The
-- parent's own words lie below and above these
pub record IsPart (s : Space) (k words : ℕ) (part : Space) : Type 0 where
  pub space : IsSpace part
  pub size : part.low + words ≡ part.high
  pub above : s.frames + 4 * k ≤ part.low
  pub below : part.high ≤ s.blocks

abbrev pub PartsAreInside : Type 0
PartsAreInside = (s : Space) (k words i : ℕ) → IsSplit s k words → i < k
    → IsPart s k words (child s k i)

-- no two parts share a word: each ends before every later one begins
abbrev pub PartsAreApart : Type 0
PartsAreApart = (s : Space) (k words i j : ℕ) → IsSplit s k words → i < j → j < k
    → (child s k i).high ≤ (child s k j).low

-- once a block didn't fit, no block is served, however small
abbrev pub FullStaysFull : Type 0
FullStaysFull = (top limit large words : ℕ) → (heap top limit large).1 ≡ None → 1 ≤ words
    → heap (heap top limit large).0 limit words ≡ (limit, None)
