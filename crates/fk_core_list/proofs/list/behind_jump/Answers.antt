use Rattle.std.proofs.Common.{◌≡◌, suc, ◌+◌, ap, sym, ◌∙◌, arith}
use Rattle.fk_core.specs.Next.{behind_jump}
use Rattle.fk_core_list.proofs.Behind.{behind_at, behind_on, behind_end}
use Rattle.fk_core_list.proofs.list.behind_jump.Goals as goal

pub returns-then-is_jump-clause-jump : goal.returns-then-is_jump-clause-jump
returns-then-is_jump-clause-jump c =
    let same = c.ops.invariant.same in
    let there : behind_jump c.args.ops.now c.ops.end ≡ suc c.ops.end
    = behind_at c.args.ops.now c.ops.end _ (omega (arith, c.ops-test.true)) (sym c.is_jump.ensures ∙ c.if-is_jump.true) in
    omega (arith, same, there)

pub ops-preserved : goal.ops-preserved
ops-preserved c =
    let next : suc c.ops.end ≡ c.ops.end + 1 = omega arith in
    record {
      low = omega (arith, c.ops-test.true);
      same = ap (behind_jump c.args.ops.now) (sym next)
          ∙ sym (behind_on c.args.ops.now c.ops.end _ (omega (arith, c.ops-test.true)) (sym c.is_jump.ensures ∙ c.if-is_jump.false))
          ∙ c.ops.invariant.same;
    }

pub returns-clause-jump : goal.returns-clause-jump
returns-clause-jump c = sym (behind_end c.args.ops.now c.ops.end (omega (arith, c.ops-test.false))) ∙ c.ops.invariant.same
