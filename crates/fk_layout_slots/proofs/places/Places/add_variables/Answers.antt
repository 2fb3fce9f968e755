use Rattle.std.proofs.Common.{◌+◌, ◌∷◌, [], map, drop, sym, ap, ap₂, ◌∙◌}
use Rattle.fk_syntax.specs.ProgramView.{declared_of}
use Rattle.fk_layout_slots.specs.KnownView.{told_by}
use Rattle.fk_layout_slots.specs.Places.{variables_slots, behind_variables}
use Rattle.fk_layout_slots.proofs.Stepping.{one_left, passed}
use Rattle.fk_layout_slots.proofs.places.Places.add_variables.Goals as goal

pub loop-variable-preserved : goal.loop-variable-preserved
loop-variable-preserved c =
    let told = told_by c.args.known.now in
    let all = c.args.variables.now in
    let i = c.loop-variable.variable-index in
    let behind = c.loop-variable.behind in
    let rest = map declared_of (drop (i + 1) all) in
    let more = one_left declared_of all i c.variable-item.result c.loop-variable-test.true c.variable-item.is in
    record {
      slots = passed c.loop-variable.into.list.items c.push.new.self.items (c.slot_in.result ∷ []) (variables_slots told c.args.frame c.behind_variable-behind.result rest) (variables_slots told c.args.frame behind (map declared_of (drop i all)))
          c.in_ok-push.ensures.items
          (ap (variables_slots told c.args.frame behind) more ∙ ap₂ (λ slot next. slot ∷ variables_slots told c.args.frame next rest) (sym c.slot_in.ensures) (sym c.behind_variable-behind.ensures))
          ∙ c.loop-variable.invariant.slots;
      taken = ap (λ next. behind_variables told next rest) c.behind_variable-behind.ensures ∙ sym (ap (behind_variables told behind) more) ∙ c.loop-variable.invariant.taken;
    }
