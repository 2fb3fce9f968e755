-- The frames so far, and those of the rest, are all; none of those so far is too large; and there are not too many operations left.
use Rattle.std.proofs.Common.{◌≡◌, ◌≤◌, ◌++◌, map, drop, length}
use Rattle.fk_meaning_forms.specs.Program.{sites_in, functions_of}
use Rattle.fk_layout_walk.specs.Known.{tables_of, items_in}
use Rattle.fk_layout.specs.Frames.{frame_of, first_large_in, functions_behind}
use Rattle.fk_layout.proofs.frames.fitting_frames.Given as goal

abbrev pub invariant-loop-index : goal.invariant-loop-index
invariant-loop-index l = record {
  frames : l.frames.items ++ map (frame_of (tables_of l.known) (items_in l.known)) (functions_behind (drop l.index l.functions.items)) ≡ map (frame_of (tables_of l.known) (items_in l.known)) (functions_behind l.functions.items);
  large : first_large_in (tables_of l.known) (items_in l.known) (functions_behind (drop l.index l.functions.items)) ≡ first_large_in (tables_of l.known) (items_in l.known) (functions_behind l.functions.items);
  few : length (sites_in (tables_of l.known) (functions_of (items_in l.known)) (functions_behind (drop l.index l.functions.items))) ≤ 16000;
}
