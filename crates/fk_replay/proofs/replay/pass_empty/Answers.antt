-- The rounds so far are late for nobody.
use Rattle.std.proofs.Common.{◌<◌, ◌≤◌, arith, rules}
use Rattle.fk_replay.specs.Passed.{TellsFirstLate}
use Rattle.fk_replay.proofs.Timely.{on_time_more, late_first}
use Rattle.fk_replay.proofs.replay.pass_empty.Goals as goal

pub returns-in_err-on_time-clause-late : goal.returns-in_err-on_time-clause-late
returns-in_err-on_time-clause-late c =
    let low : c.args.behind ≤ c.loop-passed.passed = first_of (omega arith, grind arith, search rules) in
    let high : c.loop-passed.passed < c.args.last = first_of (omega arith, grind arith, search rules) in
    let late : TellsFirstLate c.args.pace.now c.args.behind c.args.last c.in_err-on_time.field-0.0 =
    late_first c.args.pace.now c.args.behind c.loop-passed.passed c.args.last c.in_err-on_time.field-0.0 low high c.loop-passed.invariant c.in_err-on_time.ensures.late in
    first_of (search (rules, late), grind (arith, late))

pub loop-passed-preserved : goal.loop-passed-preserved
loop-passed-preserved c = on_time_more c.args.pace.now c.args.behind c.loop-passed.passed c.loop-passed.invariant c.in_ok-on_time.ensures.on_time
