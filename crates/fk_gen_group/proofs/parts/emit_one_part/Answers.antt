-- The lines that find the part, those that count and those of the two ways are the code.
use Rattle.std.proofs.Common.{◌++◌}
use Rattle.fk_gen.specs.Registers.{t3}
use Rattle.fk_gen.proofs.Emitted.{on_ok, added_both}
use Rattle.fk_gen_group.specs.Splits.{one_part_place, counting_lines, waiting_lines, saving_lines, into_one_part}
use Rattle.fk_gen_group.proofs.parts.emit_one_part.Goals as goal

pub returns : goal.returns
returns c =
    let ways = waiting_lines ++ (saving_lines ++ into_one_part) in
    record {
      added =
          on_ok c.emit_ways.result _ _
          (λ e. added_both c.args.into.now c.emit_one_place.new.into c.emit_ways.new.into one_part_place (counting_lines t3 ++ ways) c.in_ok-emit_one_place.ensures.added
          (added_both c.emit_one_place.new.into c.emit_counting.new.into c.emit_ways.new.into (counting_lines t3) ways c.in_ok-emit_counting.ensures.added e))
          c.emit_ways.ensures.added;
    }
