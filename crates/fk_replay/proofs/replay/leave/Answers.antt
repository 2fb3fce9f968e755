-- One after the other leaves.
use Rattle.std.proofs.Common.{◌≡◌, ℕ, ◌<◌, length, get_or, subst, arith}
use Rattle.fk_replay_phases.proofs.Highest.{element}
use Rattle.fk_replay_phases.specs.declared.acting.Acting.{Acting}
use Rattle.fk_replay.proofs.Leaving.{LeavesAt, leaves_first, leaves_more, leaves_all}
use Rattle.fk_replay.proofs.replay.leave.Goals as goal

abbrev nobody : Acting
nobody = record { number = 0; node = 0; lowest = 0; highest = 0 }

pub loop-member-init : goal.loop-member-init
loop-member-init c = leaves_first c.args.acting.now c.args.pace.now

pub loop-member-preserved : goal.loop-member-preserved
loop-member-preserved c =
    let i = c.loop-member.member-index in
    let lt : i < length c.args.acting.now = omega arith in
    rw c.end.ensures
    (leaves_more c.args.acting.now c.args.pace.now i c.loop-member.pace (get_or c.args.acting.now i nobody) c.loop-member.invariant lt (element c.args.acting.now i nobody lt))

pub returns-clause-many : goal.returns-clause-many
returns-clause-many c = c.loop-member.invariant.many

pub returns-clause-leaves : goal.returns-clause-leaves
returns-clause-leaves c = λ round numbers.
    let all : c.loop-member.member-index ≡ length c.args.acting.now = omega arith in
    leaves_all c.args.acting.now c.args.pace.now c.loop-member.pace round
    (subst (λ (n : ℕ). LeavesAt c.args.acting.now c.args.pace.now n c.loop-member.pace) all c.loop-member.invariant) numbers
