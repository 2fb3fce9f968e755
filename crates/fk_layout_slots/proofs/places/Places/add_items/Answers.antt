use Rattle.std.proofs.Common.{◌+◌, ◌∷◌, ◌++◌, [], map, drop, sym, ap, ◌∙◌}
use Rattle.fk_syntax.specs.ProgramView.{item_of}
use Rattle.fk_layout_slots.specs.KnownView.{told_by}
use Rattle.fk_layout_slots.specs.Slots.{item_slots, items_slots, owns_of}
use Rattle.fk_layout_slots.proofs.Alike.{owns_of_more}
use Rattle.fk_layout_slots.proofs.Stepping.{one_left, passed}
use Rattle.fk_layout_slots.proofs.places.Places.add_items.Goals as goal

pub loop-item-preserved : goal.loop-item-preserved
loop-item-preserved c =
    let told = told_by c.args.known.now in
    let all = c.args.items.now in
    let i = c.loop-item.item-index in
    let x = item_of c.item-item.result in
    let behind = c.loop-item.behind in
    let rest = map item_of (drop (i + 1) all) in
    let more = one_left item_of all i c.item-item.result c.loop-item-test.true c.item-item.is in
    let added = c.in_ok-behind.ensures in
    record {
      slots = passed c.loop-item.into.list.items c.add_item.new.into.list.items (item_slots told behind x) (items_slots told c.in_ok-behind.behind rest) (items_slots told behind (map item_of (drop i all)))
          added.slots
          (ap (items_slots told behind) more ∙ ap (λ next. item_slots told behind x ++ items_slots told next rest) (sym added.taken))
          ∙ c.loop-item.invariant.slots;
      owns = passed c.loop-item.owns.items c.add_item.new.owns.items (owns_of told (x ∷ [])) (owns_of told rest) (owns_of told (map item_of (drop i all)))
          added.owns
          (ap (owns_of told) more ∙ owns_of_more told x rest)
          ∙ c.loop-item.invariant.owns;
    }
