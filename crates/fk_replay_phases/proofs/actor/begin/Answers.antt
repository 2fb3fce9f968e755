-- A processor begins a round.
use Rattle.std.proofs.Common.{◌≡◌, ◌≢◌, ◌-◌, refl, sym, ◌∙◌, rules}
use Rattle.fk_meaning_operation.specs.declared.kinds.Class.TheVariants.{Local}
use Rattle.fk_meaning_state.specs.View.{setting_of}
use Rattle.fk_replay_phases.proofs.Starts.{mid_safe, does_last, takes_last}
use Rattle.fk_replay_phases.proofs.actor.begin.Goals as goal

pub do_one-requires-clause-safe : goal.do_one-requires-clause-safe
do_one-requires-clause-safe c =
    mid_safe c.args.ops.now (setting_of c.args.setting) (c.args.count - 1) c.args.actor.now.runner c.do_locals.new.runner c.in_ok-did.did c.in_ok-did.ensures.locals c.if-not-did.false c.requires.safe

pub returns-then-eq : goal.returns-then-eq
returns-then-eq c = record {
  begun = does_last c.args.ops.now (setting_of c.args.setting) c.args.count c.args.actor.now _ c.do_locals.new.runner c.in_ok-did.did c.in_ok-last.last c.in-Some.due c.requires.some c.requires.count
      c.in_ok-did.ensures.locals c.if-not-did.false c.in-Some.ensures.due (let same : c.class_of.result ≡ Local = search (rules, c.if-eq.ensures) in sym c.class_of.ensures ∙ same) c.in_ok-last.ensures.one c.requires.untaken refl;
}

pub returns : goal.returns
returns c = record {
  begun = takes_last c.args.ops.now (setting_of c.args.setting) c.args.count c.args.actor.now _ c.do_locals.new.runner c.in_ok-did.did c.in-Some.due c.requires.some c.requires.count
      c.in_ok-did.ensures.locals c.if-not-did.false c.in-Some.ensures.due c.in-Some.ensures.within (let other : c.class_of.result ≢ Local = search (rules, c.if-eq.ensures) in λ e. other (c.class_of.ensures ∙ e)) c.requires.safe refl;
}
