use Rattle.std.proofs.Common.{◌≡◌, ◌≢◌, ◌<◌, length, ℕ, zero, suc, Bool, true, false, not, refl, sym, ap, ◌∙◌, arith}
use Rattle.std.specs.Prelude.{◌==◌}
use Rattle.std.proofs.lemmas.Bool.{ne_eqb}
use Rattle.fk_machine.specs.Run.{committed}
use Rattle.fk_machine.specs.View.{machine_of}
use Rattle.fk_trace.specs.Text.{Commit, event_of}
use Rattle.fk_trace.proofs.Numbers.{none_yet, some_here, none_at_all}
use Rattle.fk_trace.proofs.line.has_event.Goals as goal

is_zero : (n : ℕ) → n ≡ 0 → not (n == 0) ≡ false
is_zero zero e = refl
is_zero (suc n) e = absurd (omega (arith, e))

is_other : (n : ℕ) → n ≢ 0 → not (n == 0) ≡ true
is_other zero e = absurd (e refl)
is_other (suc n) e = let none : (suc n == 0) ≡ false = ne_eqb (suc n) 0 e in ap not none

pub loop-hart-preserved : goal.loop-hart-preserved
loop-hart-preserved c =
    let test : Commit → Bool = λ commit. not (event_of commit == 0) in
    let lt : c.loop-hart.hart < length (committed (machine_of c.args.machine.now)) = omega (arith, c.harts-hart-end.ensures.committed, c.loop-hart-test.true) in
    let event = c.event_of.ensures ∙ ap event_of c.committed.ensures in
    let here = ap (λ n. not (n == 0)) (sym event) ∙ is_zero c.event_of.result c.if-event_of-ne0.false in
    none_yet test (committed (machine_of c.args.machine.now)) c.loop-hart.hart lt c.loop-hart.invariant here

pub returns-then-event_of-ne0 : goal.returns-then-event_of-ne0
returns-then-event_of-ne0 c =
    let test : Commit → Bool = λ commit. not (event_of commit == 0) in
    let lt : c.loop-hart.hart < length (committed (machine_of c.args.machine.now)) = omega (arith, c.harts-hart-end.ensures.committed, c.loop-hart-test.true) in
    let event = c.event_of.ensures ∙ ap event_of c.committed.ensures in
    let here = ap (λ n. not (n == 0)) (sym event) ∙ is_other c.event_of.result c.if-event_of-ne0.true in
    sym (some_here test (committed (machine_of c.args.machine.now)) c.loop-hart.hart lt here)

pub returns : goal.returns
returns c =
    let test : Commit → Bool = λ commit. not (event_of commit == 0) in
    let commits = committed (machine_of c.args.machine.now) in
    sym (none_at_all test commits c.loop-hart.hart (omega (arith, c.harts-hart-end.ensures.committed, c.loop-hart-test.false)) c.loop-hart.invariant)
