-- One more begins.
use Rattle.std.proofs.Common.{◌<◌, ◌≤◌, length, arith}
use Rattle.fk_replay_arrivals.proofs.Begun.{none_begin, begins_more, begins_all}
use Rattle.fk_replay_arrivals.proofs.arrivals.begin_all.Goals as goal

pub loop-member-init : goal.loop-member-init
loop-member-init c = none_begin c.args.round c.args.pace.now

pub loop-member-preserved : goal.loop-member-preserved
loop-member-preserved c =
    let i = c.loop-member.member-index in
    let lt : i < length c.args.members.now = omega arith in
    rw c.begin.ensures
    (begins_more c.args.members.now i c.args.round c.args.pace.now c.loop-member.pace lt c.requires c.loop-member.invariant)

pub returns : goal.returns
returns c =
    let all : length c.args.members.now ≤ c.loop-member.member-index = omega arith in
    begins_all c.args.members.now c.loop-member.member-index c.args.round c.args.pace.now c.loop-member.pace all c.loop-member.invariant
