-- How the members of a node act.
use Rattle.std.specs.Prelude.{◌≡◌, ℕ, List, Some, slice_get}
use Rattle.fk_tree.specs.Tree as t
use Rattle.fk_replay_rounds.specs.Modes.{mode_of}
use Rattle.fk_replay_phases.specs.declared.actor.Actor.{Actor}

-- each processor has the mode of its node
pub record HaveModes (tree : t.Tree) (actors : List Actor) : Type 0 where
  pub each : (h : ℕ) (a : Actor) → slice_get actors h ≡ Some a
      → a.mode ≡ mode_of (t.kind tree (tree.places h))
