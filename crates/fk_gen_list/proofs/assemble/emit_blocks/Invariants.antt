use Rattle.fk_gen_list.specs.Layout.{all_placed}
use Rattle.fk_gen_list.proofs.Blocks.{IsSoFar}
use Rattle.fk_gen_list.proofs.assemble.emit_blocks.Given as goal

abbrev pub invariant-loop-i : goal.invariant-loop-i
invariant-loop-i g l = IsSoFar g.B.Blocks.block (all_placed l.globals l.kept l.saved l.ops) l.i l.fn.into l.into
