use Rattle.std.proofs.Common.{◌-◌}
use Rattle.fk_gen.specs.Lines.{copy_label}
use Rattle.fk_gen_flow.specs.Calls.{copy_lines, most_privates}
use Rattle.fk_gen_list.specs.Layout.{copy_offset}
use Rattle.fk_gen_list.proofs.Chain.{IsSoFar, copying_chain}
use Rattle.fk_gen_list.proofs.copying.emit_copying.Given as goal

abbrev pub invariant-loop-copied : goal.invariant-loop-copied
invariant-loop-copied l = IsSoFar copy_label copy_offset copy_lines 2 copying_chain (most_privates - l.copied) l.fn.into l.into
