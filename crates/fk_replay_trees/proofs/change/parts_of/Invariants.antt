-- The parts so far.
use Rattle.std.proofs.Common.{◌≡◌, ℕ, map, take}
use Rattle.fk_meaning.specs.Processor.{values}
use Rattle.fk_meaning.specs.Group.{part}
use Rattle.fk_meaning.specs.Told.{number_of}
use Rattle.fk_replay_trees.specs.Changes.{has_of}
use Rattle.fk_replay_trees.proofs.change.parts_of.Given as goal

abbrev pub invariant-loop-member : goal.invariant-loop-member
invariant-loop-member l = l.of.items ≡ map (λ (h : ℕ). number_of l.count (part l.by (values (has_of l.actors h)))) (take l.member-index l.members)
