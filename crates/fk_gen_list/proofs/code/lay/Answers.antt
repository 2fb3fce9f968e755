use Rattle.std.proofs.Common.{◌^◌, ◌<◌, ◌≤◌, length, arith, rules}
use Rattle.fk_gen_list.proofs.Done.{all_have}
use Rattle.fk_gen_list.proofs.Steps.{short_list, room_for_copying, followed, room_for_clearing, labels_copied, free_copied, room_for_starting, labels_cleared, free_cleared, room_for_hiring, labels_started, free_started, room_for_parting, labels_hiring, free_hiring, room_for_halving, labels_parting, free_parting, enough_labels, blocks_made, room_for_blocks, labels_free, all_laid, room_for_forking, labels_halving, free_halving}
use Rattle.fk_gen_list.proofs.code.lay.Goals as goal

pub overflow_cast-ops : goal.overflow_cast-ops
overflow_cast-ops c =
    let short : length c.args.ops.now ≤ 256000 = short_list c.args.ops.now c.requires.small in
    search rules

pub overflow_add-ops : goal.overflow_add-ops
overflow_add-ops c =
    let short : length c.args.ops.now ≤ 256000 = short_list c.args.ops.now c.requires.small in
    search rules

pub emit_opening-requires-clause-near : goal.emit_opening-requires-clause-near
emit_opening-requires-clause-near c =
    let short : length c.args.ops.now ≤ 256000 = short_list c.args.ops.now c.requires.small in
    let begins = c.requires.list.begins in
    omega arith

pub emit_copying-requires-clause-room : goal.emit_copying-requires-clause-room
emit_copying-requires-clause-room c =
    room_for_copying c.args.ops.now c.args.kept.now c.args.saved.now c.args.main c.args.firsts.now c.args.globals c.requires.list c.requires.small
    c.make_labels.new.into c.emit_opening.new.into c.in_ok-make_labels.ensures.made c.in_ok-emit_opening.ensures.added

pub emit_copying-requires-clause-followed : goal.emit_copying-requires-clause-followed
emit_copying-requires-clause-followed c =
    followed c.args.ops.now c.args.kept.now c.args.saved.now c.args.main c.args.firsts.now c.args.globals c.requires.list c.requires.small
    c.make_labels.new.into c.emit_opening.new.into c.in_ok-make_labels.ensures.made c.in_ok-emit_opening.ensures.added

pub emit_blocks-requires-clause-known : goal.emit_blocks-requires-clause-known
emit_blocks-requires-clause-known c =
    let short : length c.args.ops.now ≤ 256000 = short_list c.args.ops.now c.requires.small in
    let below : length c.args.ops.now < 2 ^ 31 = omega arith in
    all_have c.args.ops.now c.args.kept.now c.args.saved.now c.args.main c.args.firsts.now c.args.globals c.requires.list c.requires.globals below

pub emit_clearing-requires-clause-room : goal.emit_clearing-requires-clause-room
emit_clearing-requires-clause-room c =
    room_for_clearing c.args.ops.now c.args.kept.now c.args.saved.now c.args.main c.args.firsts.now c.args.globals c.requires.list c.requires.small
    c.make_labels.new.into c.emit_opening.new.into c.in_ok-make_labels.ensures.made c.in_ok-emit_opening.ensures.added
    c.emit_copying.new.into c.in_ok-emit_copying.ensures.added

pub emit_clearing-requires-clause-made : goal.emit_clearing-requires-clause-made
emit_clearing-requires-clause-made c =
    let count = labels_copied c.args.ops.now c.args.kept.now c.args.saved.now c.args.main c.args.firsts.now c.args.globals c.requires.list c.requires.small
    c.make_labels.new.into c.emit_opening.new.into c.in_ok-make_labels.ensures.made c.in_ok-emit_opening.ensures.added
    c.emit_copying.new.into c.in_ok-emit_copying.ensures.added in
    omega (arith, count)

pub emit_clearing-requires-clause-free : goal.emit_clearing-requires-clause-free
emit_clearing-requires-clause-free c =
    free_copied c.args.ops.now c.args.kept.now c.args.saved.now c.args.main c.args.firsts.now c.args.globals c.requires.list c.requires.small
    c.make_labels.new.into c.emit_opening.new.into c.in_ok-make_labels.ensures.made c.in_ok-emit_opening.ensures.added
    c.emit_copying.new.into c.in_ok-emit_copying.ensures.added

pub emit_starting-requires-clause-room : goal.emit_starting-requires-clause-room
emit_starting-requires-clause-room c =
    room_for_starting c.args.ops.now c.args.kept.now c.args.saved.now c.args.main c.args.firsts.now c.args.globals c.requires.list c.requires.small
    c.make_labels.new.into c.emit_opening.new.into c.in_ok-make_labels.ensures.made c.in_ok-emit_opening.ensures.added
    c.emit_copying.new.into c.in_ok-emit_copying.ensures.added c.emit_clearing.new.into c.in_ok-emit_clearing.ensures.added

pub emit_starting-requires-clause-made : goal.emit_starting-requires-clause-made
emit_starting-requires-clause-made c =
    let count = labels_cleared c.args.ops.now c.args.kept.now c.args.saved.now c.args.main c.args.firsts.now c.args.globals c.requires.list c.requires.small
    c.make_labels.new.into c.emit_opening.new.into c.in_ok-make_labels.ensures.made c.in_ok-emit_opening.ensures.added
    c.emit_copying.new.into c.in_ok-emit_copying.ensures.added c.emit_clearing.new.into c.in_ok-emit_clearing.ensures.added in
    omega (arith, count)

pub emit_starting-requires-clause-free : goal.emit_starting-requires-clause-free
emit_starting-requires-clause-free c =
    free_cleared c.args.ops.now c.args.kept.now c.args.saved.now c.args.main c.args.firsts.now c.args.globals c.requires.list c.requires.small
    c.make_labels.new.into c.emit_opening.new.into c.in_ok-make_labels.ensures.made c.in_ok-emit_opening.ensures.added
    c.emit_copying.new.into c.in_ok-emit_copying.ensures.added c.emit_clearing.new.into c.in_ok-emit_clearing.ensures.added

pub emit_hiring-requires-clause-room : goal.emit_hiring-requires-clause-room
emit_hiring-requires-clause-room c =
    room_for_hiring c.args.ops.now c.args.kept.now c.args.saved.now c.args.main c.args.firsts.now c.args.globals c.requires.list c.requires.small
    c.make_labels.new.into c.emit_opening.new.into c.in_ok-make_labels.ensures.made c.in_ok-emit_opening.ensures.added
    c.emit_copying.new.into c.in_ok-emit_copying.ensures.added c.emit_clearing.new.into c.in_ok-emit_clearing.ensures.added c.emit_starting.new.into c.in_ok-emit_starting.ensures.added

pub emit_hiring-requires-clause-made : goal.emit_hiring-requires-clause-made
emit_hiring-requires-clause-made c =
    let count = labels_started c.args.ops.now c.args.kept.now c.args.saved.now c.args.main c.args.firsts.now c.args.globals c.requires.list c.requires.small
    c.make_labels.new.into c.emit_opening.new.into c.in_ok-make_labels.ensures.made c.in_ok-emit_opening.ensures.added
    c.emit_copying.new.into c.in_ok-emit_copying.ensures.added c.emit_clearing.new.into c.in_ok-emit_clearing.ensures.added c.emit_starting.new.into c.in_ok-emit_starting.ensures.added in
    omega (arith, count)

pub emit_hiring-requires-clause-free : goal.emit_hiring-requires-clause-free
emit_hiring-requires-clause-free c =
    free_started c.args.ops.now c.args.kept.now c.args.saved.now c.args.main c.args.firsts.now c.args.globals c.requires.list c.requires.small
    c.make_labels.new.into c.emit_opening.new.into c.in_ok-make_labels.ensures.made c.in_ok-emit_opening.ensures.added
    c.emit_copying.new.into c.in_ok-emit_copying.ensures.added c.emit_clearing.new.into c.in_ok-emit_clearing.ensures.added c.emit_starting.new.into c.in_ok-emit_starting.ensures.added

pub emit_parting-requires-clause-room : goal.emit_parting-requires-clause-room
emit_parting-requires-clause-room c =
    room_for_parting c.args.ops.now c.args.kept.now c.args.saved.now c.args.main c.args.firsts.now c.args.globals c.requires.list c.requires.small
    c.make_labels.new.into c.emit_opening.new.into c.in_ok-make_labels.ensures.made c.in_ok-emit_opening.ensures.added
    c.emit_copying.new.into c.in_ok-emit_copying.ensures.added c.emit_clearing.new.into c.in_ok-emit_clearing.ensures.added c.emit_starting.new.into c.in_ok-emit_starting.ensures.added
    c.emit_hiring.new.into c.in_ok-emit_hiring.ensures.added

pub emit_parting-requires-clause-made : goal.emit_parting-requires-clause-made
emit_parting-requires-clause-made c =
    let count = labels_hiring c.args.ops.now c.args.kept.now c.args.saved.now c.args.main c.args.firsts.now c.args.globals c.requires.list c.requires.small
    c.make_labels.new.into c.emit_opening.new.into c.in_ok-make_labels.ensures.made c.in_ok-emit_opening.ensures.added
    c.emit_copying.new.into c.in_ok-emit_copying.ensures.added c.emit_clearing.new.into c.in_ok-emit_clearing.ensures.added c.emit_starting.new.into c.in_ok-emit_starting.ensures.added
    c.emit_hiring.new.into c.in_ok-emit_hiring.ensures.added in
    omega (arith, count)

pub emit_parting-requires-clause-free : goal.emit_parting-requires-clause-free
emit_parting-requires-clause-free c =
    free_hiring c.args.ops.now c.args.kept.now c.args.saved.now c.args.main c.args.firsts.now c.args.globals c.requires.list c.requires.small
    c.make_labels.new.into c.emit_opening.new.into c.in_ok-make_labels.ensures.made c.in_ok-emit_opening.ensures.added
    c.emit_copying.new.into c.in_ok-emit_copying.ensures.added c.emit_clearing.new.into c.in_ok-emit_clearing.ensures.added c.emit_starting.new.into c.in_ok-emit_starting.ensures.added
    c.emit_hiring.new.into c.in_ok-emit_hiring.ensures.added

pub emit_halving-requires-clause-room : goal.emit_halving-requires-clause-room
emit_halving-requires-clause-room c =
    room_for_halving c.args.ops.now c.args.kept.now c.args.saved.now c.args.main c.args.firsts.now c.args.globals c.requires.list c.requires.small
    c.make_labels.new.into c.emit_opening.new.into c.in_ok-make_labels.ensures.made c.in_ok-emit_opening.ensures.added
    c.emit_copying.new.into c.in_ok-emit_copying.ensures.added c.emit_clearing.new.into c.in_ok-emit_clearing.ensures.added c.emit_starting.new.into c.in_ok-emit_starting.ensures.added
    c.emit_hiring.new.into c.in_ok-emit_hiring.ensures.added c.emit_parting.new.into c.in_ok-emit_parting.ensures.added

pub emit_halving-requires-clause-made : goal.emit_halving-requires-clause-made
emit_halving-requires-clause-made c =
    let count = labels_parting c.args.ops.now c.args.kept.now c.args.saved.now c.args.main c.args.firsts.now c.args.globals c.requires.list c.requires.small
    c.make_labels.new.into c.emit_opening.new.into c.in_ok-make_labels.ensures.made c.in_ok-emit_opening.ensures.added
    c.emit_copying.new.into c.in_ok-emit_copying.ensures.added c.emit_clearing.new.into c.in_ok-emit_clearing.ensures.added c.emit_starting.new.into c.in_ok-emit_starting.ensures.added
    c.emit_hiring.new.into c.in_ok-emit_hiring.ensures.added c.emit_parting.new.into c.in_ok-emit_parting.ensures.added in
    omega (arith, count)

pub emit_halving-requires-clause-free : goal.emit_halving-requires-clause-free
emit_halving-requires-clause-free c =
    free_parting c.args.ops.now c.args.kept.now c.args.saved.now c.args.main c.args.firsts.now c.args.globals c.requires.list c.requires.small
    c.make_labels.new.into c.emit_opening.new.into c.in_ok-make_labels.ensures.made c.in_ok-emit_opening.ensures.added
    c.emit_copying.new.into c.in_ok-emit_copying.ensures.added c.emit_clearing.new.into c.in_ok-emit_clearing.ensures.added c.emit_starting.new.into c.in_ok-emit_starting.ensures.added
    c.emit_hiring.new.into c.in_ok-emit_hiring.ensures.added c.emit_parting.new.into c.in_ok-emit_parting.ensures.added

pub emit_forking-requires-clause-room : goal.emit_forking-requires-clause-room
emit_forking-requires-clause-room c =
    room_for_forking c.args.ops.now c.args.kept.now c.args.saved.now c.args.main c.args.firsts.now c.args.globals c.requires.list c.requires.small
    c.make_labels.new.into c.emit_opening.new.into c.in_ok-make_labels.ensures.made c.in_ok-emit_opening.ensures.added
    c.emit_copying.new.into c.in_ok-emit_copying.ensures.added c.emit_clearing.new.into c.in_ok-emit_clearing.ensures.added c.emit_starting.new.into c.in_ok-emit_starting.ensures.added
    c.emit_hiring.new.into c.in_ok-emit_hiring.ensures.added c.emit_parting.new.into c.in_ok-emit_parting.ensures.added c.emit_halving.new.into c.in_ok-emit_halving.ensures.added

pub emit_forking-requires-clause-made : goal.emit_forking-requires-clause-made
emit_forking-requires-clause-made c =
    let count = labels_halving c.args.ops.now c.args.kept.now c.args.saved.now c.args.main c.args.firsts.now c.args.globals c.requires.list c.requires.small
    c.make_labels.new.into c.emit_opening.new.into c.in_ok-make_labels.ensures.made c.in_ok-emit_opening.ensures.added
    c.emit_copying.new.into c.in_ok-emit_copying.ensures.added c.emit_clearing.new.into c.in_ok-emit_clearing.ensures.added c.emit_starting.new.into c.in_ok-emit_starting.ensures.added
    c.emit_hiring.new.into c.in_ok-emit_hiring.ensures.added c.emit_parting.new.into c.in_ok-emit_parting.ensures.added c.emit_halving.new.into c.in_ok-emit_halving.ensures.added in
    omega (arith, count)

pub emit_forking-requires-clause-free : goal.emit_forking-requires-clause-free
emit_forking-requires-clause-free c =
    free_halving c.args.ops.now c.args.kept.now c.args.saved.now c.args.main c.args.firsts.now c.args.globals c.requires.list c.requires.small
    c.make_labels.new.into c.emit_opening.new.into c.in_ok-make_labels.ensures.made c.in_ok-emit_opening.ensures.added
    c.emit_copying.new.into c.in_ok-emit_copying.ensures.added c.emit_clearing.new.into c.in_ok-emit_clearing.ensures.added c.emit_starting.new.into c.in_ok-emit_starting.ensures.added
    c.emit_hiring.new.into c.in_ok-emit_hiring.ensures.added c.emit_parting.new.into c.in_ok-emit_parting.ensures.added c.emit_halving.new.into c.in_ok-emit_halving.ensures.added

pub emit_blocks-requires-clause-goes : goal.emit_blocks-requires-clause-goes
emit_blocks-requires-clause-goes c =
    blocks_made c.args.ops.now c.args.kept.now c.args.saved.now c.args.main c.args.firsts.now c.args.globals c.requires.list c.requires.small
    c.make_labels.new.into c.emit_opening.new.into c.in_ok-make_labels.ensures.made c.in_ok-emit_opening.ensures.added
    c.emit_copying.new.into c.in_ok-emit_copying.ensures.added c.emit_clearing.new.into c.in_ok-emit_clearing.ensures.added c.emit_starting.new.into c.in_ok-emit_starting.ensures.added
    c.emit_hiring.new.into c.in_ok-emit_hiring.ensures.added c.emit_parting.new.into c.in_ok-emit_parting.ensures.added c.emit_halving.new.into c.in_ok-emit_halving.ensures.added c.emit_forking.new.into c.in_ok-emit_forking.ensures.added

pub emit_blocks-requires-clause-room : goal.emit_blocks-requires-clause-room
emit_blocks-requires-clause-room c =
    room_for_blocks c.args.ops.now c.args.kept.now c.args.saved.now c.args.main c.args.firsts.now c.args.globals c.requires.list c.requires.small
    c.make_labels.new.into c.emit_opening.new.into c.in_ok-make_labels.ensures.made c.in_ok-emit_opening.ensures.added
    c.emit_copying.new.into c.in_ok-emit_copying.ensures.added c.emit_clearing.new.into c.in_ok-emit_clearing.ensures.added c.emit_starting.new.into c.in_ok-emit_starting.ensures.added
    c.emit_hiring.new.into c.in_ok-emit_hiring.ensures.added c.emit_parting.new.into c.in_ok-emit_parting.ensures.added c.emit_halving.new.into c.in_ok-emit_halving.ensures.added c.emit_forking.new.into c.in_ok-emit_forking.ensures.added

pub emit_blocks-requires-clause-made : goal.emit_blocks-requires-clause-made
emit_blocks-requires-clause-made c =
    enough_labels c.args.ops.now c.args.kept.now c.args.saved.now c.args.main c.args.firsts.now c.args.globals c.requires.list c.requires.small
    c.make_labels.new.into c.emit_opening.new.into c.in_ok-make_labels.ensures.made c.in_ok-emit_opening.ensures.added
    c.emit_copying.new.into c.in_ok-emit_copying.ensures.added c.emit_clearing.new.into c.in_ok-emit_clearing.ensures.added c.emit_starting.new.into c.in_ok-emit_starting.ensures.added
    c.emit_hiring.new.into c.in_ok-emit_hiring.ensures.added c.emit_parting.new.into c.in_ok-emit_parting.ensures.added c.emit_halving.new.into c.in_ok-emit_halving.ensures.added c.emit_forking.new.into c.in_ok-emit_forking.ensures.added

pub emit_blocks-requires-clause-few : goal.emit_blocks-requires-clause-few
emit_blocks-requires-clause-few c =
    let short : length c.args.ops.now ≤ 256000 = short_list c.args.ops.now c.requires.small in
    omega arith

pub emit_blocks-requires-clause-free : goal.emit_blocks-requires-clause-free
emit_blocks-requires-clause-free c =
    labels_free c.args.ops.now c.args.kept.now c.args.saved.now c.args.main c.args.firsts.now c.args.globals c.requires.list c.requires.small
    c.make_labels.new.into c.emit_opening.new.into c.in_ok-make_labels.ensures.made c.in_ok-emit_opening.ensures.added
    c.emit_copying.new.into c.in_ok-emit_copying.ensures.added c.emit_clearing.new.into c.in_ok-emit_clearing.ensures.added c.emit_starting.new.into c.in_ok-emit_starting.ensures.added
    c.emit_hiring.new.into c.in_ok-emit_hiring.ensures.added c.emit_parting.new.into c.in_ok-emit_parting.ensures.added c.emit_halving.new.into c.in_ok-emit_halving.ensures.added c.emit_forking.new.into c.in_ok-emit_forking.ensures.added

pub returns-clause-laid : goal.returns-clause-laid
returns-clause-laid c =
    all_laid c.args.ops.now c.args.kept.now c.args.saved.now c.args.main c.args.firsts.now c.args.globals c.requires.list c.requires.small
    c.make_labels.new.into c.emit_opening.new.into c.in_ok-make_labels.ensures.made c.in_ok-emit_opening.ensures.added
    c.emit_copying.new.into c.in_ok-emit_copying.ensures.added c.emit_clearing.new.into c.in_ok-emit_clearing.ensures.added c.emit_starting.new.into c.in_ok-emit_starting.ensures.added
    c.emit_hiring.new.into c.in_ok-emit_hiring.ensures.added c.emit_parting.new.into c.in_ok-emit_parting.ensures.added c.emit_halving.new.into c.in_ok-emit_halving.ensures.added c.emit_forking.new.into c.in_ok-emit_forking.ensures.added c.emit_blocks.new.into c.in_ok-emit_blocks.ensures.added
