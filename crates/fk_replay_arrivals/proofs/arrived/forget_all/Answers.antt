-- What one more does is forgotten.
use Rattle.std.proofs.Common.{◌≡◌, ℕ, suc, ◌+◌, length, get_or, subst, arith}
use Rattle.std.proofs.lemmas.Option.{slice_get-get_or}
use Rattle.fk_replay_phases.specs.declared.acting.Acting.{Acting}
use Rattle.fk_replay_arrivals.proofs.Telling.{number_below}
use Rattle.fk_replay_arrivals.proofs.Counting.{HaveForgottenAt, forgets_not, forgets_there, forgets_all}
use Rattle.fk_replay_arrivals.proofs.arrived.forget_all.Goals.{then-member, else-member}
use Rattle.fk_replay_arrivals.proofs.arrived.forget_all.Goals as goal

abbrev nobody : Acting
nobody = record { number = 0; node = 0; lowest = 0; highest = 0 }

pub bounds-actors-number : goal.bounds-actors-number
bounds-actors-number c = number_below (length c.args.actors.now) c.args.acting.now c.loop-member.member-index nobody c.requires.within c.loop-member-test.true

pub bounds-actors-number-then-member : goal.bounds-actors-number-then-member
bounds-actors-number-then-member c = number_below (length c.args.actors.now) c.args.acting.now c.loop-member.member-index nobody c.requires.within c.loop-member-test.true

pub index_mut-requires : goal.index_mut-requires
index_mut-requires c =
    let lt = number_below (length c.args.actors.now) c.args.acting.now c.loop-member.member-index nobody c.requires.within c.loop-member-test.true in
    let many = c.loop-member.invariant.many in
    let held = c.loop-member.arrived.ok.0 in
    let same = c.requires.many in
    omega (arith, lt, many, held, same)

pub loop-member-preserved : goal.loop-member-preserved
loop-member-preserved c =
    let i = c.loop-member.member-index in
    let x = get_or c.args.acting.now i nobody in
    let now = c.loop-member.arrived.items in
    let lt = c.loop-member-test.true in
    let at = slice_get-get_or c.args.acting.now i nobody lt in
    let one : suc i ≡ i + 1 = omega arith in
    let so_far = c.loop-member.invariant in
    subst (λ (n : ℕ). HaveForgottenAt c.args.acting.now c.args.actors.now c.args.arrived.now.items n c.if-member.arrived.items) one
    (elim c.if-member.branch [
      | then-member w ↦ rw w.arrived-is
          (forgets_there c.args.acting.now c.args.actors.now c.args.arrived.now.items i now x at so_far w.index-actors-number.result w.index_mut.result.now w.forget.new.arrived w.joint_in.result
          c.requires.many (number_below (length c.args.actors.now) c.args.acting.now i nobody c.requires.within lt) w.index-actors-number.is w.if-member.true w.index_mut.ensures.value
          w.joint_in.ensures w.forget.ensures)
      | else-member w ↦ rw w.arrived-is (forgets_not c.args.acting.now c.args.actors.now c.args.arrived.now.items i now x at so_far w.if-member.false)
    ])

pub returns : goal.returns
returns c =
    let all : c.loop-member.member-index ≡ length c.args.acting.now = omega arith in
    forgets_all c.args.acting.now c.args.actors.now c.args.arrived.now.items c.loop-member.member-index c.loop-member.arrived.items all c.loop-member.invariant
