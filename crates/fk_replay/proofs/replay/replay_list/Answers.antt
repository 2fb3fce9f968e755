-- The run under the schedule of a trace.
use Rattle.std.proofs.Common.{sym, ◌∙◌, subst}
use Rattle.fk_replay_schedules.specs.Moments.{Moments, AreMoments}
use Rattle.fk_replay_schedules.proofs.Moments.{traces_have_moments}
use Rattle.fk_replay.specs.Replay.{schedule_in}
use Rattle.fk_replay.proofs.Replays.{opened_steady, begun_steady, has_done_none, answered}
use Rattle.fk_replay.proofs.replay.replay_list.Goals as goal

pub begin-requires-clause-steady : goal.begin-requires-clause-steady
begin-requires-clause-steady c = opened_steady c.args.ops.now c.args.main c.args.words.now c.args.firsts.now c.args.input.now c.args.trace.now.harts c.in_ok-run.run' c.in_ok-run.ensures c.requires.trace.told.text_is.some c.requires.words c.requires.orderly c.requires.safe

pub follow-requires-clause-moments : goal.follow-requires-clause-moments
follow-requires-clause-moments c =
    let told = c.requires.trace.told in
    subst (λ (moments : Moments). AreMoments c.args.trace.now.harts c.args.trace.now.cycles 0 moments) (sym told.moments)
    (traces_have_moments c.args.trace.now.harts c.args.trace.now.cycles told.lines c.requires.trace.text told.text_is)

pub follow-requires-clause-steady : goal.follow-requires-clause-steady
follow-requires-clause-steady c = begun_steady c.args.ops.now c.args.main c.args.words.now c.args.firsts.now c.args.input.now c.args.trace.now.harts c.in_ok-run.run' c.begin.new.self c.in_ok-run.ensures c.begin.ensures (schedule_in c.args.trace.now) c.requires.trace.told.text_is.some c.requires.words c.requires.orderly c.requires.safe

pub follow-requires-clause-first : goal.follow-requires-clause-first
follow-requires-clause-first c = has_done_none c.args.ops.now c.args.main c.args.words.now c.args.firsts.now c.args.input.now c.args.trace.now.harts c.in_ok-run.run' c.begin.new.self c.in_ok-run.ensures c.begin.ensures (schedule_in c.args.trace.now)

pub returns : goal.returns
returns c =
    answered c.args.ops.now c.args.main c.args.words.now c.args.firsts.now c.args.input.now c.args.trace.now.harts c.in_ok-run.run' c.begin.new.self c.in_ok-run.ensures c.begin.ensures (schedule_in c.args.trace.now) c.follow.new.run c.in_ok-fault.fault _ c.deref.result.now c.in_ok-fault.ensures.followed (c.in_ok-output.ensures ∙ c.output.ensures) c.deref.ensures.value c.end_of.ensures
