-- Directed graphs: for each vertex, which is an index, the ends of its edges.
use Rattle.std.specs.Prelude.{◌≡◌, ℕ, zero, suc, List, Some, Vec, slice_get, Contains}
use Rattle.std.specs.declared.alloc.Global.{Global}

-- an edge leads from a vertex to another
abbrev pub HasEdge : List (Vec ℕ Global) → ℕ → ℕ → Type 0
HasEdge graph from to = (row : Vec ℕ Global) × (slice_get graph from ≡ Some row)
    × Contains row.items to

-- a walk of this many steps, where a relation tells what one step is
abbrev pub Walk : (ℕ → ℕ → Type 0) → ℕ → ℕ → ℕ → Type 0
Walk Step zero from to = from ≡ to
Walk Step (suc steps) from to = (between : ℕ) × Step from between × Walk Step steps between to

-- a walk of at least one step leads from one vertex to another
abbrev pub LeadsTo : (ℕ → ℕ → Type 0) → ℕ → ℕ → Type 0
LeadsTo Step from to = (more : ℕ) × Walk Step (suc more) from to

-- a vertex lies on a cycle: a walk leads from it back to it
abbrev pub IsOnCycle : List (Vec ℕ Global) → ℕ → Type 0
IsOnCycle graph vertex = LeadsTo (HasEdge graph) vertex vertex
