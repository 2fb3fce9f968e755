use Rattle.std.proofs.Common.{◌≡◌, ℕ, zero, suc, if◌then◌else◌, Option, Some, None, ap, ◌-◌, ◌≤◌, List, length, take, drop, length-take-le, length-drop, Bool, true, false, refl, sym, ◌∙◌, arith}
use Rattle.std.specs.Prelude.{◌==◌}
use Rattle.fk_isa.specs.declared.hart.Hart.{Hart}
use Rattle.fk_machine.specs.declared.hart.TrackedHart.{TrackedHart}
use Rattle.fk_machine.specs.declared.shared.SharedState.{SharedState}
use Rattle.fk_machine.specs.View.{address_of, harts_of, local_of, shared_of, setting_of}
use Rattle.fk_machine.specs.Cycle.{turns}
use Rattle.fk_machine.specs.Does.{PrintsUpTo}
use Rattle.fk_machine.proofs.Turned.{Begun, goes_on, is_passed, is_stopped, completed}
use Rattle.fk_machine.proofs.turns.+take_turns.Goals as goal
use Rattle.fk_machine.proofs.turns.+take_turns.Goals.{then-not-hart+in_default, else-not-hart}

some_of : (n : ℕ) (b : Bool) → b ≡ (n == 0) → b ≡ false → 1 ≤ n
some_of zero b is not = absurd (cc)
some_of (suc n) b is not = omega arith

-- all but so many of a list
length-rest : {X : Type 0} (k : ℕ) (xs : List X) → length (take (length xs - k) (drop k xs)) ≡ length xs - k
length-rest k xs = length-take-le (length xs - k) (drop k xs) (omega (arith, length-drop k xs))

-- what a hart notes when it begins its turn
pub record Begins (state : Hart) (new : TrackedHart) : Type 0 where
  pub same : new.state ≡ state
  pub live : new.state.ended ≡ false → new.ran ≡ Some state.pc
  pub over : new.state.ended ≡ true → new.ran ≡ None

begins : (state : Hart) (new : TrackedHart) → new ≡ record { state = state; ran = address_of state } → Begins state new
begins state new is =
    let same = ap (λ (h : TrackedHart). h.state) is in
    let ended = ap (λ (h : Hart). h.ended) same in
    let ran = ap (λ (h : TrackedHart). h.ran) is in
    let by : Bool → Option ℕ = λ b. if b then None else Some state.pc in
    record {
      same = same;
      live = λ e. ran ∙ ap by (sym ended ∙ e);
      over = λ e. ran ∙ ap by (sym ended ∙ e);
    }

prints_none : (s : SharedState) → PrintsUpTo 12 s s
prints_none s = record { printed = omega arith; capacity = omega arith; harts = refl }

pub slice_bounds-local-end-then-not-hart : goal.slice_bounds-local-end-then-not-hart
slice_bounds-local-end-then-not-hart t c =
    let some = some_of (length c.args.harts.now) c.is_empty.result c.is_empty.ensures c.if-is_empty.false in
    sym (length-take-le 32768 c.args.locals.now (omega (arith, some, c.requires.own)))

pub take_turn-requires-clause-own : goal.take_turn-requires-clause-own
take_turn-requires-clause-own t c =
    let some = some_of (length c.args.harts.now) c.is_empty.result c.is_empty.ensures c.if-is_empty.false in
    length-take-le 32768 c.args.locals.now (omega (arith, some, c.requires.own))

pub returns-in-Some-clause-turns : goal.returns-in-Some-clause-turns
returns-in-Some-clause-turns t c =
    let some = some_of (length c.args.harts.now) c.is_empty.result c.is_empty.ensures c.if-is_empty.false in
    let own : length c.take_turn.new.local ≡ 32768 =
    c.take_turn.auto.local ∙ length-take-le 32768 c.args.locals.now (omega (arith, some, c.requires.own)) in
    let begun = begins _ c.begin.new.self c.begin.ensures in
    let live = ap (λ (h : Hart). h.ended) (sym begun.same) ∙ c.if-not-hart.true in
    let e = rw begun.same at c.in-Some.ensures.effect in
    is_stopped (setting_of c.args.setting.now) c.args.number c.args.harts.now _ _ c.args.locals.now c.take_turn.new.local (shared_of c.args.shared.now) (shared_of c.take_turn.new.shared) c.in-Some.stand some own live (begun.live c.if-not-hart.true) e.0 e.1 e.2 _ c.pass_over.ensures

pub take_turns-requires : goal.take_turns-requires
take_turns-requires t c =
    let some = some_of (length c.args.harts.now) c.is_empty.result c.is_empty.ensures c.if-is_empty.false in
    let hs = length-rest 1 c.if-not-hart.harts in
    let ls = length-rest 32784 c.if-not-hart.locals in
    let prints : PrintsUpTo 12 c.args.shared.now c.if-not-hart.shared =
    elim c.if-not-hart.branch [
      | then-not-hart+in_default w ↦ rw w.shared-is w.in_default.ensures.output
      | else-not-hart w ↦ rw w.shared-is (prints_none c.args.shared.now)
    ] in
    let same_harts = c.if-not-hart.auto.harts in
    let same_locals = c.if-not-hart.auto.locals in (
      omega (arith, hs, some, same_harts),
      (
        omega (arith, hs, some, same_harts, c.requires.few),
        (
          omega (arith, hs, ls, some, same_harts, same_locals, c.requires.own),
          (
            omega (arith, hs, some, same_harts, prints.harts, c.requires.reserved),
            (
              omega (arith, hs, some, same_harts, prints.printed, prints.capacity, c.requires.output),
              c.requires.none,
            ),
          ),
        ),
      ),
    )

pub returns-clause-turns : goal.returns-clause-turns
returns-clause-turns t c =
    let some = some_of (length c.args.harts.now) c.is_empty.result c.is_empty.ensures c.if-is_empty.false in
    let set = setting_of c.args.setting.now in
    let n = c.args.number in
    let old = c.args.locals.now in
    let whole = turns set n (harts_of 0 c.args.harts.now (local_of old)) (shared_of c.args.shared.now) in
    let begun : Begun set n whole c.if-not-hart.harts c.if-not-hart.locals (shared_of c.if-not-hart.shared) =
    elim c.if-not-hart.branch [
      | then-not-hart+in_default w ↦
          let own : length w.take_turn.new.local ≡ 32768 = w.take_turn.auto.local ∙ length-take-le 32768 old (omega (arith, some, c.requires.own)) in
          let begun = begins _ c.begin.new.self c.begin.ensures in
          let live = ap (λ (h : Hart). h.ended) (sym begun.same) ∙ w.if-not-hart.true in
          let e = rw begun.same at w.in_default.ensures.effect in
          rw (w.harts-is, w.locals-is, w.shared-is)
          (goes_on set n c.args.harts.now _ _ old w.take_turn.new.local (shared_of c.args.shared.now) (shared_of w.take_turn.new.shared) some own live (begun.live w.if-not-hart.true) e)
      | else-not-hart w ↦
          let begun = begins _ c.begin.new.self c.begin.ensures in
          let ended = ap (λ (h : Hart). h.ended) (sym begun.same) ∙ w.if-not-hart.false in
          rw (w.harts-is, w.locals-is, w.shared-is)
          (is_passed set n c.args.harts.now _ c.begin.new.self old (shared_of c.args.shared.now) some ended begun.same (begun.over w.if-not-hart.false))
    ] in
    completed set n whole c.if-not-hart.harts c.take_turns.new.harts c.if-not-hart.locals c.take_turns.new.locals (shared_of c.if-not-hart.shared) (shared_of c.take_turns.new.shared) c.take_turns.new.stop begun (omega (arith, some, c.requires.own, c.if-not-hart.auto.locals)) c.take_turns.ensures.turns

pub returns-clause-output : goal.returns-clause-output
returns-clause-output t c =
    let some = some_of (length c.args.harts.now) c.is_empty.result c.is_empty.ensures c.if-is_empty.false in
    let hs = length-rest 1 c.if-not-hart.harts in
    let prints : PrintsUpTo 12 c.args.shared.now c.if-not-hart.shared =
    elim c.if-not-hart.branch [
      | then-not-hart+in_default w ↦ rw w.shared-is w.in_default.ensures.output
      | else-not-hart w ↦ rw w.shared-is (prints_none c.args.shared.now)
    ] in
    let others = c.take_turns.ensures.output in
    record {
      printed = omega (arith, hs, some, c.if-not-hart.auto.harts, prints.printed, others.printed);
      capacity = omega (arith, prints.capacity, others.capacity);
      harts = others.harts ∙ prints.harts;
    }
