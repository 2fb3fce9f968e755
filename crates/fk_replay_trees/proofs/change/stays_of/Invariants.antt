-- Those who stay so far.
use Rattle.std.proofs.Common.{◌≡◌, ℕ, map, take}
use Rattle.fk_meaning.specs.Group.{stays}
use Rattle.fk_replay_trees.specs.Changes.{has_of}
use Rattle.fk_replay_trees.proofs.change.stays_of.Given as goal

abbrev pub invariant-loop-member : goal.invariant-loop-member
invariant-loop-member l = l.stay.items ≡ map (λ (h : ℕ). stays (has_of l.actors h)) (take l.member-index l.members)
