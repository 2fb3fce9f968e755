-- One operation after the other.
use Rattle.fk_meaning_state.specs.View.{setting_of}
use Rattle.std.proofs.Common.{arith}
use Rattle.fk_replay_phases.proofs.Starts.{starts, goes_on, breaks_off, ends}
use Rattle.fk_replay_phases.proofs.actor.do_locals.Goals as goal

pub do_one-requires-clause-safe : goal.do_one-requires-clause-safe
do_one-requires-clause-safe c = c.loop-done.invariant.safe

pub loop-done-init : goal.loop-done-init
loop-done-init c = starts c.args.ops.now (setting_of c.args.setting) c.args.count c.args.runner.now c.requires.safe

pub loop-done-preserved : goal.loop-done-preserved
loop-done-preserved c =
    goes_on c.args.ops.now (setting_of c.args.setting) c.args.count c.loop-done.done c.args.runner.now c.loop-done.runner c.do_one.new.runner c.in_ok-did.did (omega arith) c.loop-done.invariant c.in_ok-did.ensures.one c.if-not-did.false

pub returns-then-not-did : goal.returns-then-not-did
returns-then-not-did c = record {
  locals = breaks_off c.args.ops.now (setting_of c.args.setting) c.args.count c.loop-done.done c.args.runner.now c.loop-done.runner c.do_one.new.runner c.in_ok-did.did (omega arith) c.loop-done.invariant c.in_ok-did.ensures.one c.if-not-did.true;
}

pub returns : goal.returns
returns c = record {
  locals = ends c.args.ops.now (setting_of c.args.setting) c.args.count c.loop-done.done c.args.runner.now c.loop-done.runner (omega arith) c.loop-done.invariant;
}
