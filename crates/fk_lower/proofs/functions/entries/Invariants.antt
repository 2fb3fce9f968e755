-- The entries so far and those that are left are those of all, and so are the lengths of the lists.
use Rattle.std.proofs.Common.{◌≡◌, ◌+◌, ◌++◌, map, drop}
use Rattle.fk_lower.specs.View.{part_of}
use Rattle.fk_lower.specs.Lowered.{AreMeasured, total, entries_from}
use Rattle.fk_lower.proofs.functions.entries.Given as goal

abbrev pub invariant-loop-body : goal.invariant-loop-body
invariant-loop-body l = record {
  entries : l.entries.items ++ entries_from l.at l.end (map part_of (drop l.body-index l.bodies)) ≡ entries_from 0 l.end (map part_of l.bodies);
  measured : AreMeasured (map part_of (drop l.body-index l.bodies));
  room : l.at + total (map part_of (drop l.body-index l.bodies)) ≡ total (map part_of l.bodies);
}
