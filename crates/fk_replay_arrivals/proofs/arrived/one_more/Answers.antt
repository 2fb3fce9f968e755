-- One of the three numbers is one more.
use Rattle.fk_replay_arrivals.proofs.Counting.{more_starting, more_at_barrier, more_closing, is_closing}
use Rattle.fk_replay_arrivals.proofs.arrived.one_more.Goals as goal

pub returns-in-Starting : goal.returns-in-Starting
returns-in-Starting c = λ counted few.
    let one = c.one_more_than in
    more_starting c.args.arrived.now c.args.joint one.new.number one.result few one.ensures.result c.in-Starting.is one.ensures.new

pub returns-in-AtBarrier : goal.returns-in-AtBarrier
returns-in-AtBarrier c = λ counted few.
    let one = c.one_more_than-in-AtBarrier in
    more_at_barrier c.args.arrived.now c.args.joint one.new.number one.result few one.ensures.result c.in-AtBarrier.is one.ensures.new

pub returns-in_default : goal.returns-in_default
returns-in_default c = λ counted few.
    let one = c.one_more_than-in_default in
    more_closing c.args.arrived.now c.args.joint one.new.number one.result few one.ensures.result (is_closing c.args.joint counted c.in_default.not-Starting c.in_default.not-AtBarrier) one.ensures.new
