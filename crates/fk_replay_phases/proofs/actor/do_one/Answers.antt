-- A safe processor can give back its frames.
use Rattle.std.proofs.Common.{refl, sym}
use Rattle.fk_replay_steps.specs.Steps.{step_at, callers_of}
use Rattle.fk_replay_phases.proofs.actor.do_one.Goals as goal

pub do_local-requires : goal.do_local-requires
do_local-requires c = record {
  back = c.requires.safe.leaves (step_at c.args.ops.now (callers_of c.args.runner.now) c.in-Some.due) (record { count = 0; local = refl; due = sym c.in-Some.ensures.due });
}
