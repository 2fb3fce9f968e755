use Rattle.std.proofs.Common.{sym, ap, ◌∙◌, refl, inl}
use Rattle.std.specs.Io.KnownBytes.{append_known}
use Rattle.fk_ports.proofs.Given.{append_known-nil}
use Rattle.fk_top.specs.Ending.{told_outcome}
use Rattle.fk_top.proofs.Answered.{some_file}
use Rattle.fk_top.proofs.Causes.{put_takes}
use Rattle.fk_top.proofs.Ended.{ended_as}
use Rattle.fk_top.proofs.Runs.{on_is_ok}
use Rattle.fk_top.proofs.call.give_told.Goals as goal

pub returns-in-Err-Fault-clause-cause : goal.returns-in-Err-Fault-clause-cause
returns-in-Err-Fault-clause-cause g c = λ request ends. record {
  outcome = told_outcome c.args.told.now;
  cause = ends;
  cut = inl (c.in-Err-Fault.ensures.fault (let is = c.in-Err-Fault.field-0-is in cc), sym (append_known-nil _), sym (append_known-nil _));
}

pub returns-in-Err-Memory-clause-cause : goal.returns-in-Err-Memory-clause-cause
returns-in-Err-Memory-clause-cause g c = λ request ends. record {
  took = put_takes request (told_outcome c.args.told.now) ends (some_file c.args.told.now.put c.put_file.result _ c.put_file.ensures.nothing c.in-Err-Memory.is);
  put = c.in-Err-Memory.ensures.memory (let is = c.in-Err-Memory.field-0-is in cc);
  out_took = sym (append_known-nil _);
  err_took = sym (append_known-nil _);
}

pub returns-clause-cause : goal.returns-clause-cause
returns-clause-cause g c = λ request ends.
    ended_as _ (told_outcome c.args.told.now) c.args.told.now.status refl ends (record {
      outcome = told_outcome c.args.told.now;
      status_is = refl;
      cause = ends;
      put = c.in-Ok.ensures.put;
      out_took = on_is_ok c.give_all.result _ (sym c.is_err.ensures.value ∙ c.if-is_err.false) c.give_all.ensures.all ∙ ap (append_known (g.K.Sink.taken c.args.out.now)) c.as_slice.ensures.value;
      err_took = on_is_ok c.give_line.result _ (sym c.is_err-2.ensures.value ∙ c.if-is_err-2.false) c.give_line.ensures.all;
    })
