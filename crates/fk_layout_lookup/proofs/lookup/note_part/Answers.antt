use Rattle.std.proofs.Common.{Bool, true, false, slice_get, ap, sym, ◌∙◌}
use Rattle.fk_layout_walk.specs.Known.{framed_in}
use Rattle.fk_layout_lookup.specs.Lookup.{with_frame}
use Rattle.fk_layout_lookup.proofs.Found.{part_noted}
use Rattle.fk_layout_lookup.proofs.lookup.note_part.Goals as goal

pub returns-then-second : goal.returns-then-second
returns-then-second c = λ n part.
    let longer = c.in_ok-reach.ensures.more in
    part_noted c.args.framed.now.items c.reach.new.list.items longer.0 c.index_mut.result.now c.args.region true longer.1 c.in_ok-reach.ensures.long c.index_mut.ensures.value n part
    ∙ ap (λ (second : Bool). with_frame c.args.region second n part (framed_in (slice_get c.args.framed.now.items n) part)) (sym c.if-second.true)

pub returns-else-second : goal.returns-else-second
returns-else-second c = λ n part.
    let longer = c.in_ok-reach.ensures.more in
    part_noted c.args.framed.now.items c.reach.new.list.items longer.0 c.index_mut-else-second.result.now c.args.region false longer.1 c.in_ok-reach.ensures.long c.index_mut-else-second.ensures.value n part
    ∙ ap (λ (second : Bool). with_frame c.args.region second n part (framed_in (slice_get c.args.framed.now.items n) part)) (sym c.if-second.false)
