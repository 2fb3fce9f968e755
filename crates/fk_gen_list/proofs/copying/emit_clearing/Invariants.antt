use Rattle.std.proofs.Common.{◌-◌}
use Rattle.fk_gen.specs.Lines.{clear_label}
use Rattle.fk_gen_flow.specs.Calls.{clear_lines, most_privates}
use Rattle.fk_gen_list.specs.Layout.{clear_offset}
use Rattle.fk_gen_list.proofs.Chain.{IsSoFar, clearing_chain}
use Rattle.fk_gen_list.proofs.copying.emit_clearing.Given as goal

abbrev pub invariant-loop-cleared : goal.invariant-loop-cleared
invariant-loop-cleared l = IsSoFar clear_label clear_offset clear_lines 1 clearing_chain (most_privates - l.cleared) l.fn.into l.into
