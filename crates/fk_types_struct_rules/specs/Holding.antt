-- The graph of structs that contain others, and a fault among others.
use Rattle.std.specs.Prelude.{◌≡◌, ℕ, ◌<◌, List, Option, Some, Vec, length, Contains}
use Rattle.std.specs.declared.alloc.Global.{Global}
use Rattle.fk_check_rules.specs.declared.fault.Fault.{Fault}
use Rattle.fk_check_rules.specs.Least.{Breaks}
use Rattle.fk_types_graph.specs.Graph.{HasEdge}
use Rattle.fk_types_structs.specs.Types.{StructTree}
use Rattle.fk_types_struct_rules.specs.Structs.{held_at, Holds}

-- the structs that the first `count` members of a struct contain
pub record AreHeld (structs : List StructTree) (index count : ℕ) (held : List ℕ) : Type 0 where
  pub told : (other : ℕ) → Contains held other → Holds structs index other
  pub all : (place other : ℕ) → place < count → held_at structs index place ≡ Some other
      → Contains held other

-- the structs that each of the first `count` structs contains
pub record AreFirstEdges (structs : List StructTree) (count : ℕ)
    (graph : List (Vec ℕ Global)) : Type 0 where
  pub same_length : length graph ≡ count
  pub told : (a b : ℕ) → HasEdge graph a b → Holds structs a b
  pub all : (a b : ℕ) → a < count → Holds structs a b → HasEdge graph a b

abbrev pub AreEdges : List StructTree → List (Vec ℕ Global) → Type 0
AreEdges structs graph = AreFirstEdges structs (length structs) graph

-- the rule of a fault is broken, if there is one
abbrev pub told : Option Fault → Breaks
told fault place rule = fault ≡ Some (record { place = place; rule = rule })
