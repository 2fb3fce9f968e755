-- What is written so far, and the list of the pieces that are left, are what was written before and the list of all of them. The
-- measures left are those of the code behind each of these pieces.
use Rattle.std.proofs.Common.{◌≡◌, ◌+◌, ◌*◌, ◌^◌, ◌<◌, ◌++◌, map, drop}
use Rattle.std.specs.Prelude.{max}
use Rattle.fk_lower.specs.Tree.{pieces_of, IsMeasured}
use Rattle.fk_lower.specs.View.{piece_of}
use Rattle.fk_lower.specs.Measures.{measured, rests}
use Rattle.fk_lower.specs.Faults.{AreNumbered}
use Rattle.fk_lower.specs.Written.{items_of, entry_of, around_of, written}
use Rattle.fk_lower.proofs.write.Writer.+block.Given as goal

abbrev pub invariant-block-loop-piece : goal.invariant-block-loop-piece
invariant-block-loop-piece l = record {
  rests : l.rests.items ≡ rests l.near (pieces_of (map piece_of (drop l.piece-index l.piece-items)));
  items : items_of l.self.ops.items ++ written (entry_of l.entries.of_bindings.items l.entries.end) l.near (around_of l.place.around) l.at l.place.next (pieces_of (map piece_of (drop l.piece-index l.piece-items)))
      ≡ items_of l.fn.self.ops.items ++ written (entry_of l.entries.of_bindings.items l.entries.end) l.near (around_of l.place.around) l.place.at l.place.next (pieces_of (map piece_of l.piece-items));
  whole : IsMeasured (pieces_of (map piece_of (drop l.piece-index l.piece-items)));
  room : l.at + (measured l.near (pieces_of (map piece_of (drop l.piece-index l.piece-items)))).extent < 2 ^ 32;
  numbered : AreNumbered (pieces_of (map piece_of l.piece-items)) → AreNumbered (pieces_of (map piece_of (drop l.piece-index l.piece-items)));
}

-- how deep the deepest block is; a function that is given several blocks passes on each of them
abbrev pub decreases-block : goal.decreases-block
decreases-block l = 2 * goal.size-block l

abbrev pub decreases-piece : goal.decreases-piece
decreases-piece l = 2 * goal.size-piece l

abbrev pub decreases-choose : goal.decreases-choose
decreases-choose l = 2 * max (goal.size-choose l) (goal.size-choose (record l { first = l.second })) + 1

abbrev pub decreases-repeat_while : goal.decreases-repeat_while
decreases-repeat_while l = 2 * max (goal.size-repeat_while l) (max (goal.size-repeat_while (record l { test = l.body })) (goal.size-repeat_while (record l { test = l.step }))) + 1

abbrev pub decreases-repeat_until : goal.decreases-repeat_until
decreases-repeat_until l = 2 * max (goal.size-repeat_until l) (goal.size-repeat_until (record l { body = l.test })) + 1

abbrev pub decreases-call : goal.decreases-call
decreases-call l = 2 * goal.size-call l + 1
