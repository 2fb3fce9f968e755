-- A member fits as the mode of its node says.
use Rattle.std.proofs.Common.{◌∙◌, ap, arith}
use Rattle.fk_tree.specs.View.{tree_of}
use Rattle.fk_replay_rounds.specs.Fits.{fits_by}
use Rattle.fk_replay_rounds.specs.declared.mode.Mode.TheVariants.{Group, Alone, Apart}
use Rattle.fk_replay_phases.specs.Joints.{joint_at}
use Rattle.fk_replay_phases.proofs.Joining.{mode_is}
use Rattle.fk_replay_phases.proofs.fits.fits.Goals as goal

pub returns-in-Group : goal.returns-in-Group
returns-in-Group c =
    let joint = joint_at c.args.ops.now c.args.actors.now c.args.last in
    let tree = tree_of c.args.tree.now in
    c.fits_group.ensures joint
    ∙ ap (fits_by c.args.counts.now c.args.last joint tree c.args.acting.number c.args.acting.node) (mode_is tree c.args.actors.now c.args.acting _ Group c.requires.modes (omega arith) c.requires.acting c.in-Group.is)

pub returns-in-Alone : goal.returns-in-Alone
returns-in-Alone c =
    let joint = joint_at c.args.ops.now c.args.actors.now c.args.last in
    let tree = tree_of c.args.tree.now in
    c.fits_apart.ensures
    ∙ ap (fits_by c.args.counts.now c.args.last joint tree c.args.acting.number c.args.acting.node) (mode_is tree c.args.actors.now c.args.acting _ Alone c.requires.modes (omega arith) c.requires.acting c.in-Alone.is)

pub returns-in-Apart : goal.returns-in-Apart
returns-in-Apart c =
    let joint = joint_at c.args.ops.now c.args.actors.now c.args.last in
    let tree = tree_of c.args.tree.now in
    c.fits_apart-in-Apart.ensures
    ∙ ap (fits_by c.args.counts.now c.args.last joint tree c.args.acting.number c.args.acting.node) (mode_is tree c.args.actors.now c.args.acting _ Apart c.requires.modes (omega arith) c.requires.acting c.in-Apart.is)
