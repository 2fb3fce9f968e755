use Rattle.std.proofs.Common.{◌∙◌, ap, sym, subst, take_all, arith}
use Rattle.fk_types_structs.specs.Whole.{structs_in}
use Rattle.fk_types_kinds.specs.Rows.{kinds_in}
use Rattle.fk_types_kinds.specs.Met.{AreMet}
use Rattle.fk_types_kinds.proofs.Meeting.{AreMet-more}
use Rattle.fk_types_kinds.proofs.numbers.Kinds.of.Goals as goal

pub loop-kind-preserved : goal.loop-kind-preserved
loop-kind-preserved c = record {
  met = AreMet-more (structs_in c.args.structs.now) c.args.types.now c.loop-kind.kind-index _ (kinds_in c.loop-kind.met.keys) (kinds_in c.meet.new.met.keys)
      c.loop-kind.numbers.items c.push.new.self.items c.in_ok-number.number c.loop-kind-test.true c.loop-kind.invariant.met c.in_ok-number.ensures.next c.in_ok-push.ensures.items;
  few = omega (arith, c.in_ok-number.ensures.few);
}

pub returns : goal.returns
returns c =
    let list = c.in_ok-list.ensures ∙ ap kinds_in c.as_slice.ensures.keys in
    subst (λ ks. AreMet (structs_in c.args.structs.now) c.args.types.now ks c.loop-kind.numbers.items) (sym list)
    (subst (λ ts. AreMet (structs_in c.args.structs.now) ts (kinds_in c.loop-kind.met.keys) c.loop-kind.numbers.items)
    (take_all c.loop-kind.kind-index c.args.types.now c.loop-kind-test.false) c.loop-kind.invariant.met)
