-- The levels in the frame of the running call, by the index at which it is.
use Rattle.std.specs.Prelude.{ℕ, List, slice_get, Option, Some, None}
use Rattle.fk_gen.specs.declared.placed.Levels.{Levels}

-- Where nothing is told the frame has none.
abbrev pub told_levels : Option Levels → Levels
told_levels None = record { count = 0; behind = 0; nest = 0; fork = None }
told_levels (Some levels) = levels

abbrev pub levels_in : List Levels → (index : ℕ) → Levels
levels_in saved index = told_levels (slice_get saved index)
