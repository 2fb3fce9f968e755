use Rattle.std.proofs.Common.{◌++◌, sym, subst, ap, ◌∙◌}
use Rattle.std.specs.Option.{option_to_list}
use Rattle.fk_types_structs.specs.Whole.{structs_in}
use Rattle.fk_types_struct_rules.specs.Holding.{AreHeld}
use Rattle.fk_types_struct_rules.proofs.HoldingLemmas.{AreHeld-none, AreHeld-more}
use Rattle.fk_types_struct_rules.proofs.holding.held.Goals as goal

pub loop-place-init : goal.loop-place-init
loop-place-init c = subst (AreHeld (structs_in c.args.structs.now) c.args.index 0) (sym c.new-held.ensures.items) (AreHeld-none (structs_in c.args.structs.now) c.args.index)

pub loop-place-preserved : goal.loop-place-preserved
loop-place-preserved c = AreHeld-more (structs_in c.args.structs.now) c.args.index c.loop-place.place c.loop-place.held.items c.add.new.held.items c.loop-place.invariant
    (c.in_ok-add.ensures ∙ ap (λ o. c.loop-place.held.items ++ option_to_list o) c.held_at.ensures)
