use Rattle.std.proofs.Common.{map, arith}
use Rattle.std.proofs.lemmas.List.{length-map}
use Rattle.fk_syntax.specs.ProgramView.{item_of}
use Rattle.fk_check_rules.proofs.LeastLemmas.{IsLeast-one_more, IsLeast-whole}
use Rattle.fk_types_name_rules.specs.Found.{ItemBreaks}
use Rattle.fk_types_name_rules.proofs.ListLemmas.{map_at}
use Rattle.fk_types_name_rules.proofs.check.headers_fault.Goals as goal

pub loop-at-init : goal.loop-at-init
loop-at-init c = λ place rule h. absurd (omega (arith, h.2))

pub loop-at-preserved : goal.loop-at-preserved
loop-at-preserved c =
    let items = map item_of c.args.items.now in
    let i = c.loop-at.at in
    let here = map_at item_of c.args.items.now i c.index-items-at.result (omega arith) c.index-items-at.is in
    IsLeast-one_more (ItemBreaks items) items i (item_of c.index-items-at.result) here c.loop-at.fault c.fault.result c.first_of-fault.result
    c.loop-at.invariant c.fault.ensures c.first_of-fault.ensures

pub returns : goal.returns
returns c =
    let items = map item_of c.args.items.now in
    let n = length-map c.args.items.now item_of in
    IsLeast-whole (ItemBreaks items) items c.loop-at.at (omega (arith, n)) c.loop-at.fault c.loop-at.invariant
