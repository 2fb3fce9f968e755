-- One more processor is at the beginning.
use Rattle.std.proofs.Common.{◌≡◌, ℕ, subst, arith}
use Rattle.fk_meaning_state.specs.View.{setting_of}
use Rattle.fk_replay_run.specs.Openings.{AreFirst}
use Rattle.fk_replay_run.proofs.Opening.{first_none, first_more}
use Rattle.fk_replay_run.proofs.run.first_actors.Goals as goal

pub loop-number-init : goal.loop-number-init
loop-number-init c = rw c.new-actors.ensures.items (first_none (setting_of c.args.setting) c.args.main c.args.firsts.now)

pub loop-number-preserved : goal.loop-number-preserved
loop-number-preserved c =
    rw c.in_ok-push.ensures.items
    (first_more (setting_of c.args.setting) c.args.main c.args.firsts.now c.loop-number.number c.loop-number.actors.items c.in_ok-actor.actor c.loop-number.invariant c.in_ok-actor.ensures)

pub returns : goal.returns
returns c =
    let all : c.loop-number.number ≡ c.args.setting.processors = omega arith in
    subst (λ (n : ℕ). AreFirst (setting_of c.args.setting) c.args.main c.args.firsts.now n c.loop-number.actors.items) all c.loop-number.invariant
