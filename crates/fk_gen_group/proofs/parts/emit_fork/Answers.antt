-- The lines that find the room and the part, those that count and those of the two ways are the code.
use Rattle.std.proofs.Common.{◌++◌}
use Rattle.fk_gen.specs.Registers.{t3}
use Rattle.fk_gen.proofs.Emitted.{on_ok, added_both}
use Rattle.fk_gen_group.specs.Splits.{fork_room, fork_place, counting_lines, waiting_lines, fork_saving, into_one_part}
use Rattle.fk_gen_group.proofs.parts.emit_fork.Goals as goal

pub returns : goal.returns
returns c =
    let ways = waiting_lines ++ (fork_saving ++ into_one_part) in
    record {
      added =
          on_ok c.emit_fork_ways.result _ _
          (λ e. added_both c.args.into.now c.emit_fork_room.new.into c.emit_fork_ways.new.into fork_room (fork_place ++ (counting_lines t3 ++ ways)) c.in_ok-emit_fork_room.ensures.added
          (added_both c.emit_fork_room.new.into c.emit_fork_place.new.into c.emit_fork_ways.new.into fork_place (counting_lines t3 ++ ways) c.in_ok-emit_fork_place.ensures.added
          (added_both c.emit_fork_place.new.into c.emit_counting.new.into c.emit_fork_ways.new.into (counting_lines t3) ways c.in_ok-emit_counting.ensures.added e)))
          c.emit_fork_ways.ensures.added;
    }
