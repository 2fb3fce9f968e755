-- The lines of those who wait, those that save and the way on are the code.
use Rattle.std.proofs.Common.{◌++◌}
use Rattle.fk_gen.proofs.Emitted.{on_ok, added_both}
use Rattle.fk_gen_group.specs.Splits.{waiting_lines, fork_saving, into_one_part}
use Rattle.fk_gen_group.proofs.parts.emit_fork_ways.Goals as goal

pub returns : goal.returns
returns c = record {
  added =
      on_ok c.emit_into_one.result _ _
      (λ e. added_both c.args.into.now c.emit_waiting.new.into c.emit_into_one.new.into waiting_lines (fork_saving ++ into_one_part) c.in_ok-emit_waiting.ensures.added
      (added_both c.emit_waiting.new.into c.emit_fork_saving.new.into c.emit_into_one.new.into fork_saving into_one_part c.in_ok-emit_fork_saving.ensures.added e))
      c.emit_into_one.ensures.added;
}
