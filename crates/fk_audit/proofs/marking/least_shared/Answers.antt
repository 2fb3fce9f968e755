use Rattle.std.proofs.Common.{take, refl, sym, subst, ◌∙◌}
use Rattle.std.proofs.lemmas.List.{take_all}
use Rattle.fk_audit.specs.declared.access.AccessKind.TheVariants.{Read}
use Rattle.fk_audit.specs.Mark.{IsLeast, counted}
use Rattle.fk_audit.proofs.Marked.{IsShared, none_shared, shared_counted, shared_passed}
use Rattle.fk_audit.proofs.marking.least_shared.Goals as goal
use Rattle.fk_audit.proofs.marking.least_shared.Goals.{then-is_counted, else-is_counted}

pub loop-touch-init : goal.loop-touch-init
loop-touch-init c = none_shared c.args.cycle c.args.written.now (counted c.args.stand Read (take 0 c.args.touches.now)) (λ w. refl)

pub loop-touch-preserved : goal.loop-touch-preserved
loop-touch-preserved c =
    let i = c.loop-touch.touch-index in
    elim c.if-is_counted.branch [
      | then-is_counted w ↦ rw w.least-is
          (shared_counted c.args.stand Read c.args.cycle c.args.touches.now i _ c.args.written.now c.loop-touch.least _
          c.loop-touch-test.true c.requires.within (sym c.is_counted.ensures ∙ w.if-is_counted.true) w.least_marked-least.ensures c.loop-touch.invariant)
      | else-is_counted w ↦ rw w.least-is
          (shared_passed c.args.stand Read c.args.cycle c.args.touches.now i _ c.args.written.now c.loop-touch.least c.loop-touch-test.true (sym c.is_counted.ensures ∙ w.if-is_counted.false) c.loop-touch.invariant)
    ]

pub returns : goal.returns
returns c =
    subst (λ ts. IsLeast (IsShared c.args.cycle c.args.written.now (counted c.args.stand Read ts)) c.loop-touch.least) (take_all c.loop-touch.touch-index c.args.touches.now c.loop-touch-test.false) c.loop-touch.invariant
