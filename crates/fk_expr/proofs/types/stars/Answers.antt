use Rattle.std.proofs.Common.{refl, arith, length-append}
use Rattle.fk_parse_combinators.proofs.Loops.{loops_start, loops_more, loops_end}
use Rattle.fk_expr.proofs.types.stars.Goals as goal

pub overflow_add-stars : goal.overflow_add-stars
overflow_add-stars c = omega (arith, c.loop-star.invariant.loops.less, c.loop-star.invariant.loops.few c.in-Some.ensures.few.1, c.in-Some.ensures.shorter)

pub loop-star-init : goal.loop-star-init
loop-star-init c = record { stars = _; counted = refl; loops = loops_start _ _ _ }

pub loop-star-preserved : goal.loop-star-preserved
loop-star-preserved c = record {
  stars = _;
  counted = grind (arith, length-append);
  loops = loops_more _ _ _ _ _ _ _ c.in-Some.ensures.next c.in-Some.ensures.read c.in-Some.ensures.shorter c.loop-star.invariant.loops;
}

pub returns-clause-read : goal.returns-clause-read
returns-clause-read c =
    let e = loops_end _ _ _ _ _ _ c.in_default.ensures.next c.in_default.ensures.same c.in_default.ensures.few.1 c.loop-star.invariant.loops in
    (_, e.0, c.loop-star.invariant.counted)

pub returns-clause-few : goal.returns-clause-few
returns-clause-few c = (loops_end _ _ _ _ _ _ c.in_default.ensures.next c.in_default.ensures.same c.in_default.ensures.few.1 c.loop-star.invariant.loops).1
