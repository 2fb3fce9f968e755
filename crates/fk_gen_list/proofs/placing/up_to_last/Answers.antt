use Rattle.std.proofs.Common.{◌≡◌, suc, ◌-◌, ap, sym, ◌∙◌, arith}
use Rattle.fk_gen_list.specs.Layout.{up_to_last}
use Rattle.fk_gen_list.proofs.Clears.{last-zero, last_here, last_on}
use Rattle.fk_gen_list.proofs.placing.up_to_last.Goals as goal

pub returns-then-has : goal.returns-then-has
returns-then-has c =
    let k = c.down.words - 1 in
    let here : suc k ≡ c.down.words = omega (arith, c.down-test.true) in
    sym here ∙ sym (last_here c.args.set.mask k (sym c.has.ensures ∙ c.if-has.true)) ∙ ap (up_to_last c.args.set.mask) here ∙ c.down.invariant.same

pub down-preserved : goal.down-preserved
down-preserved c =
    let k = c.down.words - 1 in
    let here : suc k ≡ c.down.words = omega (arith, c.down-test.true) in
    let few = c.down.invariant.few in
    record {
      few = omega (arith, few);
      same = sym (last_on c.args.set.mask k (sym c.has.ensures ∙ c.if-has.false)) ∙ ap (up_to_last c.args.set.mask) here ∙ c.down.invariant.same;
    }

pub returns : goal.returns
returns c =
    let none : c.down.words ≡ 0 = omega (arith, c.down-test.false) in
    none ∙ sym (last-zero c.args.set.mask) ∙ ap (up_to_last c.args.set.mask) (sym none) ∙ c.down.invariant.same
