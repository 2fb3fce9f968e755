use Rattle.std.proofs.Common.{arith}
use Rattle.fk_check_rules.proofs.LeastLemmas.{IsLeast-one_more, IsLeast-whole}
use Rattle.fk_types_names.specs.Scoped.{all_marks}
use Rattle.fk_types_name_rules.specs.Found.{MarkBreaks}
use Rattle.fk_types_name_rules.proofs.ListLemmas.{some_at}
use Rattle.fk_types_name_rules.proofs.check.marks_fault.Goals as goal

pub loop-at-init : goal.loop-at-init
loop-at-init c = λ place rule h. absurd (omega (arith, h.2))

pub loop-at-preserved : goal.loop-at-preserved
loop-at-preserved c =
    let marks = all_marks c.args.scoped.now in
    let i = c.loop-at.at in
    let here = some_at marks i (omega arith) in
    IsLeast-one_more (MarkBreaks marks) marks i here.0 here.1 c.loop-at.fault c.mark_fault.result c.first_of-fault.result
    c.loop-at.invariant (c.mark_fault.ensures here.0 here.1) c.first_of-fault.ensures

pub returns : goal.returns
returns c =
    let marks = all_marks c.args.scoped.now in
    IsLeast-whole (MarkBreaks marks) marks c.loop-at.at (omega arith) c.loop-at.fault c.loop-at.invariant
