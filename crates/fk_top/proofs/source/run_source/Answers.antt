use Rattle.std.proofs.Common.{inr}
use Rattle.std.proofs.lemmas.Result.{IfOk-weaker}
use Rattle.fk_top.proofs.Refusing.{refusing}
use Rattle.fk_top.proofs.source.run_source.Goals as goal

pub run_and_show-requires-clause-limits : goal.run_and_show-requires-clause-limits
run_and_show-requires-clause-limits c = c.in-Ok.ensures.faithful.faithful.limits

pub run_and_show-requires-clause-rows : goal.run_and_show-requires-clause-rows
run_and_show-requires-clause-rows c = (c.args.source.now, c.in-Ok.ensures.rows)

pub returns-in-Ok : goal.returns-in-Ok
returns-in-Ok c =
    IfOk-weaker c.run_and_show.result _ _ (λ e comes. inr comes) (c.run_and_show.ensures c.args.source.now c.in-Ok.ensures.faithful c.in-Ok.ensures.rows)

pub returns-in-Err : goal.returns-in-Err
returns-in-Err c =
    refusing c.args.source.now c.in-Err.refusal c.last_line_of.result c.refused_source.result _ c.in-Err.ensures.refused c.last_line_of.ensures c.refused_source.ensures
