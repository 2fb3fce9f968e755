-- One more has not arrived.
use Rattle.std.proofs.Common.{◌≡◌, ℕ, refl, subst, arith}
use Rattle.fk_replay_run.specs.Arrivals.{NoneArrived}
use Rattle.fk_replay_run.proofs.Opening.{none_first, none_more}
use Rattle.fk_replay_run.proofs.run.none_arrived.Goals as goal

pub loop-number-init : goal.loop-number-init
loop-number-init c = rw c.new-arrived.ensures.items none_first

pub loop-number-preserved : goal.loop-number-preserved
loop-number-preserved c =
    rw c.in_ok-push.ensures.items (none_more c.loop-number._number c.loop-number.arrived.items _ c.loop-number.invariant refl refl refl)

pub returns : goal.returns
returns c =
    let all : c.loop-number._number ≡ c.args.processors = omega arith in
    subst (λ (n : ℕ). NoneArrived n c.loop-number.arrived.items) all c.loop-number.invariant
