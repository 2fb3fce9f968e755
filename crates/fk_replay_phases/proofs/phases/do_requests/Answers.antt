-- One processor after the other asks.
use Rattle.std.proofs.Common.{◌≡◌, ◌<◌, length, Some, get_or, slice_get, refl, ◌∙◌, arith}
use Rattle.std.proofs.lemmas.Option.{slice_get_read}
use Rattle.fk_meaning_store.specs.View.{store_of, processors_of}
use Rattle.fk_replay_phases.specs.declared.acting.Acting.{Acting}
use Rattle.fk_replay_phases.proofs.Highest.{element}
use Rattle.fk_replay_phases.proofs.Requests.{asks_first, asks_next, asks_more, asks_break, asks_end}
use Rattle.fk_replay_phases.proofs.phases.do_requests.Goals as goal

abbrev nobody : Acting
nobody = record { number = 0; node = 0; lowest = 0; highest = 0 }

pub loop-member-init : goal.loop-member-init
loop-member-init c = record {
  asks = asks_first c.args.ops.now c.args.acting.now c.args.actors.now.items (store_of c.args.store.now) c.requires.acting;
  processors = refl;
}

pub index_mut-requires : goal.index_mut-requires
index_mut-requires c =
    let i = c.loop-member.member-index in
    let now = c.loop-member.actors.items in
    let x = get_or c.args.acting.now i nobody in
    let lt : i < length c.args.acting.now = omega arith in
    let many : length c.args.actors.now.items ≡ processors_of c.args.store.now = let held = c.args.actors.now.ok.0 in let all = c.requires.many in omega arith in
    let next = asks_next c.args.ops.now (processors_of c.args.store.now) c.args.acting.now c.args.actors.now.items now (store_of c.args.store.now) (store_of c.loop-member.store) i x
    c.loop-member.invariant.asks many c.requires.own c.requires.can lt (element c.args.acting.now i nobody lt) in
    let held = c.loop-member.actors.ok.0 in
    let high = next.high in
    omega (arith, held, high)

pub ask-requires : goal.ask-requires
ask-requires c =
    let i = c.loop-member.member-index in
    let now = c.loop-member.actors.items in
    let x = get_or c.args.acting.now i nobody in
    let a = c.index_mut.result.now in
    let lt : i < length c.args.acting.now = omega arith in
    let many : length c.args.actors.now.items ≡ processors_of c.args.store.now = let held = c.args.actors.now.ok.0 in let all = c.requires.many in omega arith in
    let next = asks_next c.args.ops.now (processors_of c.args.store.now) c.args.acting.now c.args.actors.now.items now (store_of c.args.store.now) (store_of c.loop-member.store) i x
    c.loop-member.invariant.asks many c.requires.own c.requires.can lt (element c.args.acting.now i nobody lt) in
    let here : slice_get now x.number ≡ Some a = slice_get_read now (length now) x.number a refl next.high c.index_mut.ensures.value in
    record {
      few = c.requires.few;
      number = let number = next.own a here in let same = c.loop-member.invariant.processors in omega (arith, number, same);
      depth = let calls = next.calls a here in let held = a.runner.processor.callers.ok.0 in omega (arith, calls, held);
      can = next.can a here;
    }

pub loop-member-preserved : goal.loop-member-preserved
loop-member-preserved c =
    let i = c.loop-member.member-index in
    let now = c.loop-member.actors.items in
    let x = get_or c.args.acting.now i nobody in
    let a = c.index_mut.result.now in
    let lt : i < length c.args.acting.now = omega arith in
    let is = element c.args.acting.now i nobody lt in
    let many : length c.args.actors.now.items ≡ processors_of c.args.store.now = let held = c.args.actors.now.ok.0 in let all = c.requires.many in omega arith in
    let next = asks_next c.args.ops.now (processors_of c.args.store.now) c.args.acting.now c.args.actors.now.items now (store_of c.args.store.now) (store_of c.loop-member.store) i x
    c.loop-member.invariant.asks many c.requires.own c.requires.can lt is in
    let here : slice_get now x.number ≡ Some a = slice_get_read now (length now) x.number a refl next.high c.index_mut.ensures.value in
    record {
      asks = asks_more c.args.ops.now c.args.acting.now c.args.actors.now.items now (store_of c.args.store.now) (store_of c.loop-member.store) (store_of c.ask.new.store) i x a c.ask.new.actor
          c.in_ok-fault.fault c.loop-member.invariant.asks lt is here c.in_ok-fault.ensures.asked c.in_default.is;
      processors = c.ask.ensures.processors ∙ c.loop-member.invariant.processors;
    }

pub returns-in-Some-clause-asked : goal.returns-in-Some-clause-asked
returns-in-Some-clause-asked c =
    let i = c.loop-member.member-index in
    let now = c.loop-member.actors.items in
    let x = get_or c.args.acting.now i nobody in
    let a = c.index_mut.result.now in
    let lt : i < length c.args.acting.now = omega arith in
    let is = element c.args.acting.now i nobody lt in
    let many : length c.args.actors.now.items ≡ processors_of c.args.store.now = let held = c.args.actors.now.ok.0 in let all = c.requires.many in omega arith in
    let next = asks_next c.args.ops.now (processors_of c.args.store.now) c.args.acting.now c.args.actors.now.items now (store_of c.args.store.now) (store_of c.loop-member.store) i x
    c.loop-member.invariant.asks many c.requires.own c.requires.can lt is in
    let here : slice_get now x.number ≡ Some a = slice_get_read now (length now) x.number a refl next.high c.index_mut.ensures.value in
    asks_break c.args.ops.now c.args.acting.now c.args.actors.now.items now (store_of c.args.store.now) (store_of c.loop-member.store) (store_of c.ask.new.store) i x a c.ask.new.actor
    (record { site = c.in-Some.site; processor = x.number }) c.in_ok-fault.fault c.loop-member.invariant.asks lt is here c.in_ok-fault.ensures.asked c.in-Some.is refl

pub returns-clause-asked : goal.returns-clause-asked
returns-clause-asked c =
    asks_end c.args.ops.now c.args.acting.now c.args.actors.now.items c.loop-member.actors.items (store_of c.args.store.now) (store_of c.loop-member.store) c.loop-member.member-index c.loop-member.invariant.asks (omega arith)
