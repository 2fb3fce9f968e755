use Rattle.std.proofs.Common.{refl, arith}
use Rattle.fk_compile_text.proofs.Searches.{none_more, none_at_all}
use Rattle.fk_compile_text.proofs.laid.name_at.Goals as goal

pub loop-item-preserved : goal.loop-item-preserved
loop-item-preserved c =
    none_more c.args.items.now c.args.place c.loop-item.item-index c.item-item.result (omega arith) c.item-item.is (c.in_default.ensures.none refl) c.loop-item.invariant

pub returns-clause-none : goal.returns-clause-none
returns-clause-none c = λ _. none_at_all c.args.items.now c.args.place c.loop-item.item-index (omega arith) c.loop-item.invariant
