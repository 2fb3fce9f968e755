use Rattle.std.proofs.Common.{subst, refl}
use Rattle.fk_top.specs.declared.ending.Ending.{Ending}
use Rattle.fk_top.specs.Ending.{outcome_of}
use Rattle.fk_top.specs.Call.{Ends, stored_of}
use Rattle.fk_top.proofs.call.give_ending.Goals as goal

pub returns-in-Told-clause-cause : goal.returns-in-Told-clause-cause
returns-in-Told-clause-cause g c = λ request ends.
    c.give_told.ensures.cause request (subst (λ (e : Ending). Ends request (outcome_of e)) c.in-Told.is ends)

pub returns-in-Runs-clause-cause : goal.returns-in-Runs-clause-cause
returns-in-Runs-clause-cause g c = λ request ends.
    c.run_and_report.ensures.cause request (stored_of g.F.Store.files g.F.Store.put_faults c.args.files.now c.args.files.now) refl
    (subst (λ (e : Ending). Ends request (outcome_of e)) c.in-Runs.is ends)
