use Rattle.std.proofs.Common.{arith, ◌∙◌}
use Rattle.std.proofs.lemmas.Result.{err_from_is_err_and}
use Rattle.fk_ports.proofs.Given.{more_given, no_piece, part_given}
use Rattle.fk_ports.proofs.sink.give_all.Goals as goal

pub returns-in_err-count-clause-prefix : goal.returns-in_err-count-clause-prefix
returns-in_err-count-clause-prefix g c =
    let p = err_from_is_err_and c.from_residual.result c.from_residual.ensures.1 in
    let part = part_given c.args.bytes.now c.loop-rest.rest.now (g.K.Sink.taken c.args.sink.now) (g.K.Sink.taken c.loop-rest.sink) c.loop-rest.invariant.0 in
    rw (p.1, c.in_err-count.ensures.refused) part

pub returns-in_err-count-clause-empty : goal.returns-in_err-count-clause-empty
returns-in_err-count-clause-empty g c = λ e.
    no_piece c.args.bytes.now c.loop-rest.rest.now (g.K.Sink.taken c.args.sink.now) (g.K.Sink.taken c.loop-rest.sink) (grind (arith, c.loop-rest-test.ensures)) c.loop-rest.invariant.0 e

pub loop-rest-preserved : goal.loop-rest-preserved
loop-rest-preserved g c = (
  more_given c.args.bytes.now c.loop-rest.rest.now (g.K.Sink.taken c.args.sink.now) (g.K.Sink.taken c.loop-rest.sink) (g.K.Sink.taken c.give.new.self) c.in_ok-count.count c.loop-rest.invariant.0 c.in_ok-count.ensures.taken,
  c.in_ok-count.ensures.steady ∙ c.loop-rest.invariant.1,
  λ e. no_piece c.args.bytes.now c.loop-rest.rest.now (g.K.Sink.taken c.args.sink.now) (g.K.Sink.taken c.loop-rest.sink) (grind (arith, c.loop-rest-test.ensures)) c.loop-rest.invariant.0 e,
)
