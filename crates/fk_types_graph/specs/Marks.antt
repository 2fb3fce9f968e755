-- Marked vertices, and a search that marks the vertices that are reached.
use Rattle.std.specs.Prelude.{◌≡◌, ℕ, ◌+◌, ◌<◌, ◌⊎◌, Bool, true, not, List, Some, Vec, length}
use Rattle.std.specs.Prelude.{slice_get, count_by, Contains}
use Rattle.std.specs.declared.alloc.Global.{Global}
use Rattle.fk_types_graph.specs.Graph.{HasEdge, LeadsTo}

abbrev pub IsMarked : List Bool → ℕ → Type 0
IsMarked marks vertex = slice_get marks vertex ≡ Some true

-- some vertices are marked, and those that weren't marked before wait
pub record Marks (vertices : List ℕ) (before after : List Bool)
    (waited waiting : List ℕ) : Type 0 where
  pub same_length : length after ≡ length before
  pub kept : (v : ℕ) → IsMarked before v → IsMarked after v
  pub still : (v : ℕ) → Contains waited v → Contains waiting v
  pub all : (v : ℕ) → Contains vertices v → v < length after → IsMarked after v
  pub only : (v : ℕ) → IsMarked after v
      → IsMarked before v ⊎ (Contains vertices v × Contains waiting v)
  pub marked : (v : ℕ) → Contains waiting v → Contains waited v ⊎ IsMarked after v
  pub fewer : length waiting + count_by not after ≡ length waited + count_by not before

-- the ends of all edges of a vertex are marked
abbrev pub IsDone : List (Vec ℕ Global) → List Bool → ℕ → Type 0
IsDone graph marks v = (w : ℕ) → HasEdge graph v w → w < length marks → IsMarked marks w

-- a search from a vertex: a marked vertex is reached, and is done or waits
pub record IsSearch (graph : List (Vec ℕ Global)) (from : ℕ) (marks : List Bool)
    (waiting : List ℕ) : Type 0 where
  pub same_length : length marks ≡ length graph
  pub reached : (v : ℕ) → IsMarked marks v → LeadsTo (HasEdge graph) from v
  pub marked : (v : ℕ) → Contains waiting v → IsMarked marks v
  pub begun : IsDone graph marks from
  pub done : (v : ℕ) → IsMarked marks v → Contains waiting v ⊎ IsDone graph marks v
