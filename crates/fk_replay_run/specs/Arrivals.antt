-- A run in memory before which nobody has come to a joint operation.
use Rattle.std.specs.Prelude.{◌≡◌, ℕ, List, length}
use Rattle.fk_meaning_operation.specs.declared.kinds.Joint.{Joint}
use Rattle.fk_replay_arrivals.specs.declared.arrived.Arrived.{Arrived}
use Rattle.fk_replay_arrivals.specs.Arrived.{arrived_in}

-- nobody has come to a joint operation
pub record NoneArrived (processors : ℕ) (items : List Arrived) : Type 0 where
  pub many : length items ≡ processors
  pub none : (h : ℕ) (joint : Joint) → arrived_in items h joint ≡ 0
