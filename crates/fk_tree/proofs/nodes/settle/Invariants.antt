use Rattle.std.proofs.Common.{◌≡◌, ℕ, take, slice_index, if◌then◌else◌}
use Rattle.fk_tree.specs.Tree.{is_member}
use Rattle.fk_tree.proofs.nodes.settle.Given as goal

abbrev pub invariant-loop-processor : goal.invariant-loop-processor
invariant-loop-processor l = (h : ℕ) → slice_index l.places h ≡ (if is_member h (take l.processor-index l.processors) then l.node else slice_index l.fn.places h)
