-- Whether a fault stops a round.
use Rattle.std.proofs.Common.{Some, sym, ◌∙◌}
use Rattle.fk_replay_take.proofs.Served.{fit_counts, fit_actors, fit_acting, fit_modes, fit_there}
use Rattle.fk_replay_take.proofs.Stopping.{low, stops, not_last, misfit}
use Rattle.fk_replay_take.proofs.rounds.stop.Goals as goal

pub fit-requires : goal.fit-requires
fit-requires c =
    let now = c.args.run.now in
    let fault = c.args.fault in
    let round = c.requires.asked.0 in
    let old = c.requires.asked.1 in
    let x = c.requires.asked.2 in
    record {
      counts = fit_counts c.args.ops.now round old now (Some fault) x;
      actors = fit_actors c.args.ops.now round old now (Some fault) x;
      acting = fit_acting c.args.ops.now round old now (Some fault) x;
      modes = fit_modes c.args.ops.now round old now (Some fault) x;
      there = fit_there c.args.ops.now round old now (Some fault) x fault.processor
          (low c.args.ops.now round old now fault x (sym c.is_last.ensures ∙ c.if-not-is_last.false));
    }

pub returns-then-not-is_last : goal.returns-then-not-is_last
returns-then-not-is_last c = λ round old x. not_last c.args.ops.now round old c.args.run.now c.args.fault x (sym c.is_last.ensures ∙ c.if-not-is_last.true)

pub returns-then-not-fit : goal.returns-then-not-fit
returns-then-not-fit c = λ round old x. misfit c.args.ops.now round old c.args.run.now c.args.fault x (sym c.fit.ensures ∙ c.if-not-fit.true)

pub returns : goal.returns
returns c = λ round old x.
    stops c.args.ops.now round old c.args.run.now c.args.fault x (sym c.is_last.ensures ∙ c.if-not-is_last.false) (sym c.fit.ensures ∙ c.if-not-fit.false)
