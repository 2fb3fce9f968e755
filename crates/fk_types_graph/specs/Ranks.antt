-- Ranks of vertices, and the ranks that are passed by edges that don't fall.
use Rattle.std.specs.Prelude.{◌≡◌, ℕ, ◌<◌, ◌≤◌, Bool, List, Vec, length, slice_index, Contains}
use Rattle.std.specs.declared.alloc.Global.{Global}
use Rattle.fk_types_graph.specs.Graph.{HasEdge}
use Rattle.fk_types_graph.specs.Marks.{IsMarked}

-- the ranks from `low` to `high` are marked
abbrev pub Covers : List Bool → ℕ → ℕ → Type 0
Covers marks low high = (rank : ℕ) → low ≤ rank → rank ≤ high → rank < length marks
    → IsMarked marks rank

-- what was marked stays marked
pub record Keeps (before after : List Bool) : Type 0 where
  pub same_length : length after ≡ length before
  pub kept : (v : ℕ) → IsMarked before v → IsMarked after v

-- the ranks from `low` to those of some vertices are marked
abbrev pub CoversAll : List Bool → List ℕ → ℕ → List ℕ → Type 0
CoversAll marks ranks low vertices = (to : ℕ) → Contains vertices to → to < length ranks
    → Covers marks low (slice_index ranks to)

-- the ranks that edges of the first `count` vertices pass are marked
abbrev pub CoversFirst : List Bool → List ℕ → List (Vec ℕ Global) → ℕ → Type 0
CoversFirst marks ranks graph count = (from to : ℕ) → from < count → HasEdge graph from to
    → to < length ranks → Covers marks (slice_index ranks from) (slice_index ranks to)
