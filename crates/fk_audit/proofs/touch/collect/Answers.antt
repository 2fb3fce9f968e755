use Rattle.std.proofs.Common.{◌≡◌, ◌<◌, ◌^◌, ◌++◌, [], ◌∷◌, map, take, vec_len, cond, None, ap, sym, ◌∙◌, append-nil, arith, rules}
use Rattle.std.specs.Prelude.{Vec, is_ok}
use Rattle.std.specs.declared.alloc.Global.{Global}
use Rattle.std.proofs.lemmas.List.{take_all, length-map}
use Rattle.std.proofs.lemmas.List.Elements.{All-push, All-same}
use Rattle.fk_machine.specs.Step.{state_of}
use Rattle.fk_machine.specs.View.{machine_of}
use Rattle.fk_audit.specs.declared.touch.Touch.{Touch}
use Rattle.fk_audit.specs.Touch.{with_touch}
use Rattle.fk_audit.specs.Mark.{next_touches}
use Rattle.fk_audit.proofs.Touched.{next_more, some_hart}
use Rattle.fk_audit.proofs.touch.collect.Goals as goal
use Rattle.fk_audit.proofs.touch.collect.Goals.{in-Some, in_default}

pub loop-number-preserved : goal.loop-number-preserved
loop-number-preserved c =
    let m = machine_of c.args.machine.now in
    let hs = map state_of m.harts in
    let n = c.loop-number.number in
    let so_far = c.loop-number.invariant in
    let test = c.loop-number-test.true in
    let harts = c.harts-number-end.ensures.harts in
    let there = some_hart hs n (omega (arith, test, harts, length-map m.harts state_of)) in
    let h = there.0 in
    let touch = c.next_touch.ensures.touch h there.1 in
    let before = next_touches m.code 0 (take n hs) in
    elim c.match-next_touch.branch [
      | in-Some w ↦
          let one = w.in-Some.touch in
          let pushed = w.push.ensures.items ∙ ap (λ r. cond (is_ok r) (c.loop-number.touches.items ++ one ∷ []) c.loop-number.touches.items) w.unwrap.ensures in
          let same = ap (λ (v : Vec Touch Global). v.items) w.touches-is ∙ pushed in
          let len = ap (λ (v : Vec Touch Global). vec_len v) w.touches-is in
          record {
            collected =
                same
                ∙ ap (λ ts. ts ++ one ∷ []) so_far.collected
                ∙ ap (λ o. before ++ with_touch o []) (sym w.in-Some.is ∙ touch)
                ∙ sym (next_more m.code hs n h there.1);
            within = All-same (λ t. t.word < 2 ^ 20) _ _ same (All-push (λ t. t.word < 2 ^ 20) c.loop-number.touches.items one so_far.within w.in-Some.ensures.within);
            few = omega (arith, len, w.push.ensures.upper_bound, so_far.few);
            room = rw w.touches-is (omega (arith, w.push.ensures.capacity, so_far.room));
          }
      | in_default w ↦
          let none : c.next_touch.result ≡ None = search rules in
          let same = ap (λ (v : Vec Touch Global). v.items) w.touches-is in
          let len = ap (λ (v : Vec Touch Global). vec_len v) w.touches-is in
          record {
            collected =
                same
                ∙ so_far.collected
                ∙ sym (append-nil before)
                ∙ ap (λ o. before ++ with_touch o []) (sym none ∙ touch)
                ∙ sym (next_more m.code hs n h there.1);
            within = All-same (λ t. t.word < 2 ^ 20) _ _ same so_far.within;
            few = omega (arith, len, so_far.few);
            room = rw w.touches-is so_far.room;
          }
    ]

pub returns-clause-touches : goal.returns-clause-touches
returns-clause-touches c =
    let m = machine_of c.args.machine.now in
    let hs = map state_of m.harts in
    c.loop-number.invariant.collected
    ∙ ap (next_touches m.code 0) (take_all c.loop-number.number hs (omega (arith, length-map m.harts state_of, c.loop-number-test.false, c.harts-number-end.ensures.harts)))
