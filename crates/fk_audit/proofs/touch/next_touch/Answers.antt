use Rattle.std.proofs.Common.{◌≡◌, map, Some, None, ap, refl, ◌∙◌, rules}
use Rattle.fk_isa.specs.Step.{HartState, hart_of}
use Rattle.fk_machine.specs.Step.{state_of}
use Rattle.fk_machine.specs.View.{machine_of}
use Rattle.fk_audit.specs.Touch.{touch_at}
use Rattle.fk_audit.specs.Mark.{next_touch}
use Rattle.fk_audit.proofs.Touched.{live_touch, no_touch, of_hart}
use Rattle.fk_audit.proofs.touch.next_touch.Goals as goal

pub returns-in_err-instruction-clause-touch : goal.returns-in_err-instruction-clause-touch
returns-in_err-instruction-clause-touch c =
    let m = machine_of c.args.machine.now in
    let h = hart_of c.hart-hart.result.now in
    let n = c.args.number in
    let none : c.from_residual.result ≡ None = search rules in
    of_hart (map state_of m.harts) n h (λ (x : HartState). c.from_residual.result ≡ next_touch m.code n x) c.hart-hart.ensures
    (none ∙ live_touch m.code n h None None c.if-hart.false c.in_err-instruction.ensures.instruction refl)

pub returns-in_err-access-clause-touch : goal.returns-in_err-access-clause-touch
returns-in_err-access-clause-touch c =
    let m = machine_of c.args.machine.now in
    let h = hart_of c.hart-hart.result.now in
    let n = c.args.number in
    let none : c.from_residual-in_err-access.result ≡ None = search rules in
    of_hart (map state_of m.harts) n h (λ (x : HartState). c.from_residual-in_err-access.result ≡ next_touch m.code n x) c.hart-hart.ensures
    (none ∙ live_touch m.code n h (Some c.in_ok-instruction.instruction) None c.if-hart.false c.in_ok-instruction.ensures.instruction c.in_err-access.ensures)

pub returns-in-SharedWord-clause-touch : goal.returns-in-SharedWord-clause-touch
returns-in-SharedWord-clause-touch c =
    let m = machine_of c.args.machine.now in
    let h = hart_of c.hart-hart.result.now in
    let n = c.args.number in
    let access = c.in_ok-access.access in
    of_hart (map state_of m.harts) n h (λ (x : HartState). Some (record { hart = n; word = c.in-SharedWord.word; kind = access.kind }) ≡ next_touch m.code n x) c.hart-hart.ensures
    (ap (touch_at n access.kind) c.in-SharedWord.ensures.place
    ∙ live_touch m.code n h (Some c.in_ok-instruction.instruction) (Some access) c.if-hart.false c.in_ok-instruction.ensures.instruction c.in_ok-access.ensures)

pub returns-in_default : goal.returns-in_default
returns-in_default c =
    let m = machine_of c.args.machine.now in
    let h = hart_of c.hart-hart.result.now in
    let n = c.args.number in
    let access = c.in_ok-access.access in
    record {
      touch = of_hart (map state_of m.harts) n h (λ (x : HartState). None ≡ next_touch m.code n x) c.hart-hart.ensures
          (no_touch n access.kind c.place_at.result c.in_default.not-SharedWord
          ∙ ap (touch_at n access.kind) c.place_at.ensures.place
          ∙ live_touch m.code n h (Some c.in_ok-instruction.instruction) (Some access) c.if-hart.false c.in_ok-instruction.ensures.instruction c.in_ok-access.ensures);
      within = tt;
    }
