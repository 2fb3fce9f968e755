use Rattle.std.proofs.Common.{refl, sym, ◌∙◌, rules}
use Rattle.fk_parse_combinators.proofs.Loops.{loops_end}
use Rattle.fk_parse_combinators.proofs.Halting.{halts_going}
use Rattle.fk_parse.proofs.Pushed.{pushed_start, pushed_more}
use Rattle.fk_parse.proofs.item.items.Goals as goal

pub loop-alloc-init : goal.loop-alloc-init
loop-alloc-init c = pushed_start _ _ _ _ _ c.new-items.ensures.items

pub loop-alloc-preserved : goal.loop-alloc-preserved
loop-alloc-preserved c =
    pushed_more _ _ _ _ _ _ _ _ _ (sym c.item_is_next.ensures.next ∙ c.loop-alloc-test.true) c.in_ok-item.ensures.read c.in_ok-item.ensures.shorter c.in_ok-push.ensures.items c.loop-alloc.invariant

pub returns-in_err-item : goal.returns-in_err-item
returns-in_err-item c =
    let r = halts_going _ _ _ _ _ _ _ (sym c.item_is_next.ensures.next ∙ c.loop-alloc-test.true) c.in_err-item.ensures.read c.loop-alloc.invariant.going in
    search rules

pub returns : goal.returns
returns c = record {
  read = (loops_end _ _ _ _ _ _ (sym c.item_is_next.ensures.next ∙ c.loop-alloc-test.false) refl c.item_is_next.ensures.few c.loop-alloc.invariant).0;
}
