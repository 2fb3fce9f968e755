use Rattle.std.proofs.Common.{◌+◌, ◌∷◌, [], map, drop, sym, ap, ap₂, ◌∙◌}
use Rattle.fk_syntax.specs.ProgramView.{declared_of}
use Rattle.fk_layout_slots.specs.KnownView.{told_by}
use Rattle.fk_layout_slots.specs.Places.{parameters_slots, behind_parameters}
use Rattle.fk_layout_slots.proofs.Stepping.{one_left, passed}
use Rattle.fk_layout_slots.proofs.places.Places.add_parameters.Goals as goal

pub loop-parameter-preserved : goal.loop-parameter-preserved
loop-parameter-preserved c =
    let told = told_by c.args.known.now in
    let all = c.args.parameters.now in
    let i = c.loop-parameter.parameter-index in
    let behind = c.loop-parameter.behind in
    let rest = map declared_of (drop (i + 1) all) in
    let more = one_left declared_of all i c.parameter-item.result c.loop-parameter-test.true c.parameter-item.is in
    record {
      slots = passed c.loop-parameter.into.list.items c.push.new.self.items (c.slot_in.result ∷ []) (parameters_slots told c.args.frame c.behind_parameter-behind.result rest) (parameters_slots told c.args.frame behind (map declared_of (drop i all)))
          c.in_ok-push.ensures.items
          (ap (parameters_slots told c.args.frame behind) more ∙ ap₂ (λ slot next. slot ∷ parameters_slots told c.args.frame next rest) (sym c.slot_in.ensures) (sym c.behind_parameter-behind.ensures))
          ∙ c.loop-parameter.invariant.slots;
      taken = ap (λ next. behind_parameters told next rest) c.behind_parameter-behind.ensures ∙ sym (ap (behind_parameters told behind) more) ∙ c.loop-parameter.invariant.taken;
    }
