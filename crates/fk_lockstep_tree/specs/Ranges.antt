-- The words of each node's space, as its members have them in their levels.
use Rattle.std.specs.Prelude.{◌≡◌, ◌≢◌, ℕ, ◌+◌, ◌^◌, ◌≤◌, ◌==◌, List, [], ◌∷◌, Option, Some, None}
use Rattle.std.specs.Prelude.{slice_get, if◌then◌else◌, ◌⊎◌}
use Rattle.fk_space.specs.Space.{Space}
use Rattle.fk_tree.specs.Tree as t
use Rattle.fk_tree.specs.Tree.{Tree}
use Rattle.fk_meaning.specs.Processor.{Level, Processor, Setting, group_space}
use Rattle.fk_meaning.specs.Round.{Runner, State, lowest, nobody}

-- the words of a space, whatever is taken of it
abbrev pub range_of : Space → Space
range_of s = record { low = s.low; high = s.high; frames = s.low; blocks = s.high }

-- the level of a node among those of a processor that is at a node: its own level, and those of the
-- groups around it, which are the nodes above
abbrev pub level_at : Tree → (g at : ℕ) → Level → (outer : List Level) → Level
level_at tree g at l [] = l
level_at tree g at l (o ∷ outer) = if at == g then l else level_at tree g (t.parent tree at) o outer

abbrev pub level_of : Tree → (g : ℕ) → Processor → Level
level_of tree g p = level_at tree g (tree.places p.number) p.level p.outer

abbrev pub has_of : {W : Type 0} → Option (Runner W) → Processor
has_of None = nobody
has_of (Some r) = r.has

-- the words of a node's space, by its lowest member
abbrev pub ranges_of : {W : Type 0} → State W → (g : ℕ) → Space
ranges_of s g =
    range_of (level_of s.tree g (has_of (slice_get s.runners (lowest (t.members s.tree g))))).space

-- Ranges are nested: the group of a `start` has that of the whole group space; that of a part lies
-- in that of its parent, behind the header, and shares no word with those of the parent's other
-- parts
pub record HaveRanges (set : Setting) (tree : Tree) (spaces : ℕ → Space) : Type 0 where
  pub header : (g : ℕ) → g ≢ 0 → tree.nodes g ≢ None → (spaces g).low + 8 ≤ (spaces g).high
  pub within : (g : ℕ) → g ≢ 0 → tree.nodes g ≢ None → (spaces g).high ≤ 2 ^ 20
  pub whole : (g : ℕ) → g ≢ 0 → tree.nodes g ≢ None → t.parent tree g ≡ 0
      → spaces g ≡ range_of (group_space set)
  pub nested : (g : ℕ) → g ≢ 0 → tree.nodes g ≢ None → t.parent tree g ≢ 0
      → ((spaces (t.parent tree g)).low + 8 ≤ (spaces g).low)
      × ((spaces g).high ≤ (spaces (t.parent tree g)).high)
  pub apart : (g k : ℕ) → g ≢ 0 → k ≢ 0 → g ≢ k → tree.nodes g ≢ None → tree.nodes k ≢ None
      → t.parent tree g ≡ t.parent tree k
      → ((spaces g).high ≤ (spaces k).low) ⊎ ((spaces k).high ≤ (spaces g).low)
