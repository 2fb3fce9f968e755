use Rattle.std.proofs.Common.{◌≡◌, false, length, subst, arith}
use Rattle.fk_core_levels.proofs.Swept.{IsSwept, at_each}
use Rattle.fk_core_levels.proofs.behind.sweep.Goals as goal

pub returns-clause-stays : goal.returns-clause-stays
returns-clause-stays c none =
    let core = c.args.ops.now in
    let end : c.list.step ≡ length core = omega (arith, c.list-test.false, c.list.auto.step-end) in
    at_each core c.args.saved.now c.list.saved c.args.back
    (subst (λ n. IsSwept core c.args.saved.now c.list.saved c.args.back n false) end
    (subst (λ f. IsSwept core c.args.saved.now c.list.saved c.args.back c.list.step f) none c.list.invariant))
