-- Those who act fit one after the other.
use Rattle.std.proofs.Common.{◌<◌, length, get_or, sym, ◌∙◌, arith}
use Rattle.fk_tree.specs.View.{tree_of, processors}
use Rattle.fk_replay_phases.specs.Present.{present}
use Rattle.fk_replay_phases.specs.Joints.{joint_at}
use Rattle.fk_replay_phases.specs.declared.acting.Acting.{Acting}
use Rattle.fk_replay_phases.proofs.Highest.{element, element_at}
use Rattle.fk_replay_phases.proofs.Fitting.{fits_first, fits_at, fits_more, fits_end, fits_not, next_number}
use Rattle.fk_replay_phases.proofs.fits.all_fit.Goals as goal

abbrev nobody : Acting
nobody = record { number = 0; node = 0; lowest = 0; highest = 0 }

pub fits-requires-clause-sound : goal.fits-requires-clause-sound
fits-requires-clause-sound c = c.requires.there.sound

pub fits-requires-clause-number : goal.fits-requires-clause-number
fits-requires-clause-number c =
    let i = c.loop-member.member-index in
    let lt : i < length c.args.acting.now = omega arith in
    (next_number c.args.counts.now c.args.last (joint_at c.args.ops.now c.args.actors.now c.args.last) (tree_of c.args.tree.now) (processors c.args.tree.now) c.args.acting.now i
    (get_or c.args.acting.now i nobody) c.loop-member.invariant lt (element c.args.acting.now i nobody lt) c.requires.there).0

pub fits-requires-clause-low : goal.fits-requires-clause-low
fits-requires-clause-low c =
    let i = c.loop-member.member-index in
    let lt : i < length c.args.acting.now = omega arith in
    (next_number c.args.counts.now c.args.last (joint_at c.args.ops.now c.args.actors.now c.args.last) (tree_of c.args.tree.now) (processors c.args.tree.now) c.args.acting.now i
    (get_or c.args.acting.now i nobody) c.loop-member.invariant lt (element c.args.acting.now i nobody lt) c.requires.there).1

pub fits-requires-clause-acting : goal.fits-requires-clause-acting
fits-requires-clause-acting c =
    let i = c.loop-member.member-index in
    let lt : i < length c.args.acting.now = omega arith in
    element_at c.args.acting.now i (get_or c.args.acting.now i nobody) (tree_of c.args.tree.now) (present 0 c.args.counts.now) c.requires.acting lt (element c.args.acting.now i nobody lt)

pub loop-member-init : goal.loop-member-init
loop-member-init c =
    fits_first c.args.counts.now c.args.last (joint_at c.args.ops.now c.args.actors.now c.args.last) (tree_of c.args.tree.now) (processors c.args.tree.now) c.args.acting.now c.requires.acting

pub loop-member-preserved : goal.loop-member-preserved
loop-member-preserved c =
    let i = c.loop-member.member-index in
    let joint = joint_at c.args.ops.now c.args.actors.now c.args.last in
    let tree = tree_of c.args.tree.now in
    let p = processors c.args.tree.now in
    let acting = c.args.acting.now in
    let lt : i < length acting = omega arith in
    let x = get_or acting i nobody in
    let is = element acting i nobody lt in
    let at = element_at acting i x tree (present 0 c.args.counts.now) c.requires.acting lt is in
    fits_more c.args.counts.now c.args.last joint tree p acting i x c.loop-member.invariant lt is
    (sym (fits_at c.args.counts.now c.args.last joint tree p acting x c.fits.result at c.fits.ensures) ∙ c.if-not-fits.false)

pub returns-then-not-fits : goal.returns-then-not-fits
returns-then-not-fits c =
    let i = c.loop-member.member-index in
    let joint = joint_at c.args.ops.now c.args.actors.now c.args.last in
    let tree = tree_of c.args.tree.now in
    let p = processors c.args.tree.now in
    let acting = c.args.acting.now in
    let lt : i < length acting = omega arith in
    let x = get_or acting i nobody in
    let is = element acting i nobody lt in
    let at = element_at acting i x tree (present 0 c.args.counts.now) c.requires.acting lt is in
    sym (fits_not c.args.counts.now c.args.last joint tree p acting i x c.loop-member.invariant lt is c.requires.there
    (sym (fits_at c.args.counts.now c.args.last joint tree p acting x c.fits.result at c.fits.ensures) ∙ c.if-not-fits.true))

pub returns : goal.returns
returns c =
    let i = c.loop-member.member-index in
    let joint = joint_at c.args.ops.now c.args.actors.now c.args.last in
    sym (fits_end c.args.counts.now c.args.last joint (tree_of c.args.tree.now) (processors c.args.tree.now) c.args.acting.now i c.loop-member.invariant (omega arith) c.requires.there)
