use Rattle.std.proofs.Common.{◌∙◌, Err, ap}
use Rattle.fk_gen_list.proofs.assemble.finish.Goals as goal

pub unreachable-requires : goal.unreachable-requires
unreachable-requires c =
    let arm = c.in-Err-TooFar in
    c.requires.near arm.field-0-0 arm.field-0-1 ((c.finish.ensures.too_far arm.field-0-0 arm.field-0-1).0 (arm.is ∙ ap Err arm.field-0-is))
