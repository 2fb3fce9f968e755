use Rattle.std.proofs.Common.{◌≢◌, ℕ, ◌≤◌, take, refl, sym, subst, arith, ◌∙◌}
use Rattle.std.specs.Prelude.{slice_index}
use Rattle.std.proofs.lemmas.List.{take_all}
use Rattle.fk_audit.specs.Mark.{IsLeast, IsMark, counted}
use Rattle.fk_audit.proofs.Marked.{none_marked, marked_counted, marked_passed}
use Rattle.fk_audit.proofs.marking.mark.Goals as goal
use Rattle.fk_audit.proofs.marking.mark.Goals.{then-is_counted, else-is_counted}

pub loop-touch-init : goal.loop-touch-init
loop-touch-init c = none_marked c.args.cycle c.args.other.now c.args.marks.now (counted c.args.stand c.args.kind (take 0 c.args.touches.now)) (λ w. refl) c.requires.earlier

pub loop-touch-preserved : goal.loop-touch-preserved
loop-touch-preserved c =
    let i = c.loop-touch.touch-index in
    elim c.if-is_counted.branch [
      | then-is_counted w ↦ rw (w.marks-is, w.least-is)
          (marked_counted c.args.stand c.args.kind c.args.cycle c.args.touches.now i _ c.args.other.now c.loop-touch.marks _ c.loop-touch.least _
          c.loop-touch-test.true c.requires.within (omega (arith, c.requires.sized, c.loop-touch.auto.marks)) (sym c.is_counted.ensures ∙ w.if-is_counted.true) w.mark_word-least.ensures.marks w.mark_word-least.ensures.least c.loop-touch.invariant)
      | else-is_counted w ↦ rw (w.marks-is, w.least-is)
          (marked_passed c.args.stand c.args.kind c.args.cycle c.args.touches.now i _ c.args.other.now c.loop-touch.marks c.loop-touch.least c.loop-touch-test.true (sym c.is_counted.ensures ∙ w.if-is_counted.false) c.loop-touch.invariant)
    ]

pub returns-clause-marks : goal.returns-clause-marks
returns-clause-marks c = λ w free.
    subst (λ ts. IsMark c.args.cycle (counted c.args.stand c.args.kind ts w) (slice_index c.loop-touch.marks w)) (take_all c.loop-touch.touch-index c.args.touches.now c.loop-touch-test.false) (c.loop-touch.invariant.marks_are w free)

pub returns-clause-most : goal.returns-clause-most
returns-clause-most c = c.loop-touch.invariant.most

pub returns-clause-least : goal.returns-clause-least
returns-clause-least c =
    subst (λ ts. IsLeast (λ (w : ℕ). (slice_index c.args.other.now w ≢ c.args.cycle) × (2 ≤ counted c.args.stand c.args.kind ts w)) c.loop-touch.least) (take_all c.loop-touch.touch-index c.args.touches.now c.loop-touch-test.false) c.loop-touch.invariant.least_is
