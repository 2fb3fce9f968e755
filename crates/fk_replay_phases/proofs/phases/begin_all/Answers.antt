-- One processor after the other begins.
use Rattle.std.proofs.Common.{◌≡◌, ◌<◌, length, Some, get_or, slice_get, refl, arith}
use Rattle.std.proofs.lemmas.Option.{slice_get_read}
use Rattle.fk_meaning_state.specs.View.{setting_of}
use Rattle.fk_replay_phases.specs.declared.acting.Acting.{Acting}
use Rattle.fk_replay_phases.proofs.Highest.{element}
use Rattle.fk_replay_phases.proofs.Begins.{begins_first, begins_next, begins_more, begins_not, begins_end}
use Rattle.fk_replay_phases.proofs.phases.begin_all.Goals as goal

abbrev nobody : Acting
nobody = record { number = 0; node = 0; lowest = 0; highest = 0 }

pub loop-member-init : goal.loop-member-init
loop-member-init c = begins_first c.args.ops.now (setting_of c.args.setting) c.args.counts.now c.args.acting.now c.args.actors.now.items c.requires.numbers

pub bounds-counts-number : goal.bounds-counts-number
bounds-counts-number c =
    let i = c.loop-member.member-index in
    let x = get_or c.args.acting.now i nobody in
    let lt : i < length c.args.acting.now = omega arith in
    let next = begins_next c.args.ops.now (setting_of c.args.setting) c.args.counts.now c.args.acting.now c.args.actors.now.items c.loop-member.actors.items i x c.loop-member.invariant c.requires.untaken
    c.requires.safe (let held = c.args.actors.now.ok.0 in omega arith) lt (element c.args.acting.now i nobody lt) in
    next.within

pub index_mut-requires : goal.index_mut-requires
index_mut-requires c =
    let i = c.loop-member.member-index in
    let x = get_or c.args.acting.now i nobody in
    let lt : i < length c.args.acting.now = omega arith in
    let next = begins_next c.args.ops.now (setting_of c.args.setting) c.args.counts.now c.args.acting.now c.args.actors.now.items c.loop-member.actors.items i x c.loop-member.invariant c.requires.untaken
    c.requires.safe (let held = c.args.actors.now.ok.0 in omega arith) lt (element c.args.acting.now i nobody lt) in
    let held = c.loop-member.actors.ok.0 in
    let high = next.high in
    omega (arith, held, high)

pub begin-requires : goal.begin-requires
begin-requires c =
    let i = c.loop-member.member-index in
    let x = get_or c.args.acting.now i nobody in
    let lt : i < length c.args.acting.now = omega arith in
    let next = begins_next c.args.ops.now (setting_of c.args.setting) c.args.counts.now c.args.acting.now c.args.actors.now.items c.loop-member.actors.items i x c.loop-member.invariant c.requires.untaken
    c.requires.safe (let held = c.args.actors.now.ok.0 in omega arith) lt (element c.args.acting.now i nobody lt) in
    let here : slice_get c.loop-member.actors.items x.number ≡ Some c.index_mut.result.now = slice_get_read c.loop-member.actors.items (length c.loop-member.actors.items) x.number c.index_mut.result.now refl next.high c.index_mut.ensures.value in
    record {
      few = c.requires.few;
      some = next.some;
      count = c.requires.counts x.number;
      untaken = next.untaken c.index_mut.result.now here;
      safe = next.safe c.index_mut.result.now here;
    }

pub loop-member-preserved : goal.loop-member-preserved
loop-member-preserved c =
    let i = c.loop-member.member-index in
    let x = get_or c.args.acting.now i nobody in
    let lt : i < length c.args.acting.now = omega arith in
    let is = element c.args.acting.now i nobody lt in
    let many : length c.args.counts.now ≡ length c.args.actors.now.items = let held = c.args.actors.now.ok.0 in omega arith in
    let next = begins_next c.args.ops.now (setting_of c.args.setting) c.args.counts.now c.args.acting.now c.args.actors.now.items c.loop-member.actors.items i x c.loop-member.invariant c.requires.untaken
    c.requires.safe many lt is in
    let here : slice_get c.loop-member.actors.items x.number ≡ Some c.index_mut.result.now = slice_get_read c.loop-member.actors.items (length c.loop-member.actors.items) x.number c.index_mut.result.now refl next.high c.index_mut.ensures.value in
    begins_more c.args.ops.now (setting_of c.args.setting) c.args.counts.now c.args.acting.now c.args.actors.now.items c.loop-member.actors.items i x c.index_mut.result.now c.begin.new.actor c.in_ok-can.can
    c.loop-member.invariant c.requires.untaken many lt is here c.in_ok-can.ensures.begun c.if-not-can.false

pub returns-then-not-can : goal.returns-then-not-can
returns-then-not-can c =
    let i = c.loop-member.member-index in
    let x = get_or c.args.acting.now i nobody in
    let lt : i < length c.args.acting.now = omega arith in
    let is = element c.args.acting.now i nobody lt in
    let many : length c.args.counts.now ≡ length c.args.actors.now.items = let held = c.args.actors.now.ok.0 in omega arith in
    let next = begins_next c.args.ops.now (setting_of c.args.setting) c.args.counts.now c.args.acting.now c.args.actors.now.items c.loop-member.actors.items i x c.loop-member.invariant c.requires.untaken
    c.requires.safe many lt is in
    let here : slice_get c.loop-member.actors.items x.number ≡ Some c.index_mut.result.now = slice_get_read c.loop-member.actors.items (length c.loop-member.actors.items) x.number c.index_mut.result.now refl next.high c.index_mut.ensures.value in
    record {
      begun = begins_not c.args.ops.now (setting_of c.args.setting) c.args.counts.now c.args.acting.now c.args.actors.now.items c.loop-member.actors.items _ i x c.index_mut.result.now c.begin.new.actor c.in_ok-can.can
          c.loop-member.invariant lt is here c.in_ok-can.ensures.begun c.if-not-can.true;
    }

pub returns : goal.returns
returns c = record {
  begun = begins_end c.args.ops.now (setting_of c.args.setting) c.args.counts.now c.args.acting.now c.args.actors.now.items c.loop-member.actors.items c.loop-member.member-index c.loop-member.invariant c.requires.untaken
      (let held = c.args.actors.now.ok.0 in omega arith) (omega arith);
}
