-- The reader is at the mark, and what is visible at the marks before it is found.
use Rattle.std.proofs.Common.{◌≡◌, map}
use Rattle.fk_types_names.specs.View.{mark_of}
use Rattle.fk_types_names.specs.Reading.{IsAt}
use Rattle.fk_types_names.specs.Scoped.{AreInnermost}
use Rattle.fk_types_names.proofs.scoped.visible.Given as goal

abbrev pub invariant-loop-at : goal.invariant-loop-at
invariant-loop-at l = record {
  here : IsAt l.reader l.at;
  same : l.reader.marks.now ≡ l.marks;
  found : AreInnermost (map mark_of l.marks) l.innermost.items l.at;
}
