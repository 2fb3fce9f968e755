use Rattle.std.proofs.Common.{below_more, arith, rules, w64}
use Rattle.std.proofs.lemmas.Int.{to_z-of_z}
use mir.Val.{SFits}
use Rattle.fk_asm.specs.Assembly.{IsNear}
use Rattle.fk_asm.proofs.Near.{IsFirstTooFar-here, IfSome-slice_get}
use Rattle.fk_asm.proofs.assembler.first_too_far.Goals as goal

pub returns-in-Some-clause-first : goal.returns-in-Some-clause-first
returns-in-Some-clause-first c =
    let fits : SFits w64 c.in-Some.distance = search rules in
    IsFirstTooFar-here c.args.bound.now c.args.lines.now c.loop-k.k _ c.in-Some.distance _ (omega arith) (to_z-of_z w64 c.in-Some.distance fits) c.in-Some.ensures.far c.loop-k.invariant

pub loop-k-preserved : goal.loop-k-preserved
loop-k-preserved c =
    below_more _ _ c.loop-k.invariant (IfSome-slice_get (IsNear c.args.bound.now c.loop-k.k) c.args.lines.now c.loop-k.k _ c.loop-k-test.true c.in_default.ensures.near)
