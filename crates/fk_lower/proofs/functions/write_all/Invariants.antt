-- What is written so far, and the lists that are left, are what was written before and all lists.
use Rattle.std.proofs.Common.{◌≡◌, ◌+◌, ◌++◌, map, drop}
use Rattle.fk_lower.specs.View.{part_of}
use Rattle.fk_lower.specs.Written.{items_of, entry_of}
use Rattle.fk_lower.specs.Lowered.{AreMeasured, total, written_from}
use Rattle.fk_lower.specs.Faults.{AllNumbered}
use Rattle.fk_lower.proofs.functions.write_all.Given as goal

abbrev pub invariant-loop-body : goal.invariant-loop-body
invariant-loop-body l = record {
  items : items_of l.writer.ops.items ++ written_from (entry_of l.entries.of_bindings.items l.entries.end) l.at l.entries.end (map part_of (drop l.body-index l.bodies))
      ≡ items_of l.fn.writer.ops.items ++ written_from (entry_of l.entries.of_bindings.items l.entries.end) 0 l.entries.end (map part_of l.bodies);
  measured : AreMeasured (map part_of (drop l.body-index l.bodies));
  room : l.at + total (map part_of (drop l.body-index l.bodies)) ≡ total (map part_of l.bodies);
  numbered : AllNumbered (map part_of l.bodies) → AllNumbered (map part_of (drop l.body-index l.bodies));
}
