use Rattle.std.proofs.Common.{◌-◌, true≢false, sym, refl, subst, arith}
use Rattle.fk_core_liveness.specs.Live.{words_in}
use Rattle.fk_core_liveness.proofs.Asked.{one_more}
use Rattle.fk_core_liveness.proofs.live.pass.Invariants.{Gone}
use Rattle.fk_core_liveness.proofs.live.pass.Goals as goal

pub back-preserved-then-grow : goal.back-preserved-then-grow
back-preserved-then-grow c =
    let falls = c.if-grow.ensures.found refl in
    record {
      low = omega arith;
      least = c.grow.ensures.least c.back.invariant.least;
      most = omega arith;
      falls = λ is. omega arith;
      all = λ is. absurd (true≢false is);
    }

pub back-preserved : goal.back-preserved
back-preserved c =
    let same = c.if-grow.ensures.same refl in
    let core = c.args.ops.now in
    let live = c.back.live in
    subst (λ sets. Gone core c.args.live.now sets (c.back.index - 1) c.back.found) (sym same)
    (record {
      low = omega arith;
      least = c.back.invariant.least;
      most = c.back.invariant.most;
      falls = c.back.invariant.falls;
      all = λ none. one_more core (words_in live) c.back.index (c.if-grow.ensures.all refl) (c.back.invariant.all none);
    })
