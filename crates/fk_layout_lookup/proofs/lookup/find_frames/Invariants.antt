-- The regions from an index on are told.
use Rattle.std.proofs.Common.{◌≤◌, drop, length}
use Rattle.fk_layout_walk.specs.Known.{tables_of}
use Rattle.fk_layout_lookup.specs.Lookup.{TellsFrames}
use Rattle.fk_layout_lookup.proofs.lookup.find_frames.Given as goal

abbrev pub invariant-loop-index : goal.invariant-loop-index
invariant-loop-index l = (l.index ≤ length l.known.regions.now) × TellsFrames (tables_of l.known) (drop l.index l.known.regions.now) l.framed.items

abbrev pub decreases-loop-index : goal.decreases-loop-index
decreases-loop-index l = l.index
