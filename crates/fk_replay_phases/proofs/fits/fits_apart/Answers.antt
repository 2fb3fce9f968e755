-- The lowest member is a processor.
use Rattle.std.proofs.Common.{◌≡◌, sym, ◌∙◌, arith}
use Rattle.fk_meaning_operation.specs.declared.kinds.Joint.TheVariants.{Alone, AtBarrier, Resuming}
use Rattle.fk_tree.specs.View.{tree_of, processors}
use Rattle.fk_replay_phases.specs.Joints.{joint_at}
use Rattle.fk_replay_phases.proofs.Highest.{acting_low}
use Rattle.fk_replay_phases.proofs.Joining.{taken_is, lowest_is, does_alone, can_resume, cannot_resume, comes_alone, joins_others}
use Rattle.fk_replay_phases.proofs.fits.fits_apart.Goals.{in_default-via-in-AtBarrier+else-is_alone, in_default-via-in_default}
use Rattle.fk_replay_phases.proofs.fits.fits_apart.Goals as goal

pub joins-requires : goal.joins-requires
joins-requires c =
    let low = acting_low (processors c.args.tree.now) (tree_of c.args.tree.now) c.args.acting c.requires.sound c.requires.number c.requires.acting in
    record { actor = omega arith; count = omega arith }

pub returns-in-Alone : goal.returns-in-Alone
returns-in-Alone c =
    let joint = joint_at c.args.ops.now c.args.actors.now c.args.last in
    let tree = tree_of c.args.tree.now in
    let number = c.args.acting.number in
    let j = c.joint_in-joint.result in
    let same : j ≡ joint number = c.joint_in-joint.ensures ∙ taken_is c.args.ops.now c.args.actors.now c.args.last number c.index-actors-acting.result c.requires.low (omega arith) c.index-actors-acting.is in
    does_alone c.args.counts.now c.args.last joint tree number c.args.acting.node c.args.is_alone j (joint number) c.in-Alone.is same

pub returns-then-ready : goal.returns-then-ready
returns-then-ready c =
    let joint = joint_at c.args.ops.now c.args.actors.now c.args.last in
    let tree = tree_of c.args.tree.now in
    let number = c.args.acting.number in
    let j = c.joint_in-joint.result in
    let same : j ≡ joint number = c.joint_in-joint.ensures ∙ taken_is c.args.ops.now c.args.actors.now c.args.last number c.index-actors-acting.result c.requires.low (omega arith) c.index-actors-acting.is in
    can_resume c.args.counts.now c.args.last joint tree number c.args.acting.node c.args.is_alone c.joins_lowest.result c.ready.result j (joint number) c.joins_lowest.ensures c.in-Resuming.is c.ready.ensures c.if-ready.true same

pub returns-else-ready : goal.returns-else-ready
returns-else-ready c =
    let joint = joint_at c.args.ops.now c.args.actors.now c.args.last in
    let tree = tree_of c.args.tree.now in
    let number = c.args.acting.number in
    let j = c.joint_in-joint.result in
    let same : j ≡ joint number = c.joint_in-joint.ensures ∙ taken_is c.args.ops.now c.args.actors.now c.args.last number c.index-actors-acting.result c.requires.low (omega arith) c.index-actors-acting.is in
    cannot_resume c.args.counts.now c.args.last joint tree number c.args.acting.node c.args.is_alone c.ready.result j (joint number) c.in-Resuming.is c.ready.ensures c.if-ready.false same

pub returns-in-AtBarrier : goal.returns-in-AtBarrier
returns-in-AtBarrier c =
    let joint = joint_at c.args.ops.now c.args.actors.now c.args.last in
    let tree = tree_of c.args.tree.now in
    let number = c.args.acting.number in
    let j = c.joint_in-joint.result in
    let same : j ≡ joint number = c.joint_in-joint.ensures ∙ taken_is c.args.ops.now c.args.actors.now c.args.last number c.index-actors-acting.result c.requires.low (omega arith) c.index-actors-acting.is in
    comes_alone c.args.counts.now c.args.last joint tree number c.args.acting.node c.args.is_alone c.joins.result j (joint number) c.args.acting.lowest c.joins.ensures (lowest_is tree c.args.acting c.requires.acting) c.in-AtBarrier.is c.if-is_alone.true same

pub returns-in_default : goal.returns-in_default
returns-in_default c =
    let joint = joint_at c.args.ops.now c.args.actors.now c.args.last in
    let tree = tree_of c.args.tree.now in
    let number = c.args.acting.number in
    let j = c.joint_in-joint.result in
    let same : j ≡ joint number = c.joint_in-joint.ensures ∙ taken_is c.args.ops.now c.args.actors.now c.args.last number c.index-actors-acting.result c.requires.low (omega arith) c.index-actors-acting.is in
    let tells = c.joins_lowest-in_default.ensures in
    elim c.in_default.branch [ in_default-via-in-AtBarrier+else-is_alone w ↦ joins_others c.args.counts.now c.args.last joint tree number c.args.acting.node c.args.is_alone c.joins_lowest-in_default.result j (joint number) tells (λ e. let z : AtBarrier ≡ Alone = sym w.in-AtBarrier.is ∙ e in cc) (λ e. let z : AtBarrier ≡ Resuming = sym w.in-AtBarrier.is ∙ e in cc) (λ e. w.if-is_alone.false) same | in_default-via-in_default w ↦ joins_others c.args.counts.now c.args.last joint tree number c.args.acting.node c.args.is_alone c.joins_lowest-in_default.result j (joint number) tells w.in_default.not-Alone w.in_default.not-Resuming (λ e. absurd (w.in_default.not-AtBarrier e)) same ]
