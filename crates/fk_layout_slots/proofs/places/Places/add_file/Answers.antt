use Rattle.std.proofs.Common.{◌+◌, ◌∷◌, [], map, drop, sym, ap, ap₂, ◌∙◌}
use Rattle.fk_syntax.specs.ProgramView.{declared_of}
use Rattle.fk_layout_slots.specs.KnownView.{told_by}
use Rattle.fk_layout_slots.specs.Places.{file_slots, behind_variables}
use Rattle.fk_layout_slots.proofs.Stepping.{one_left, passed}
use Rattle.fk_layout_slots.proofs.places.Places.add_file.Goals as goal

pub loop-variable-preserved : goal.loop-variable-preserved
loop-variable-preserved c =
    let told = told_by c.args.known.now in
    let all = c.args.variables.now in
    let i = c.loop-variable.variable-index in
    let behind = c.loop-variable.behind in
    let rest = map declared_of (drop (i + 1) all) in
    let more = one_left declared_of all i c.variable-item.result c.loop-variable-test.true c.variable-item.is in
    record {
      slots = passed c.loop-variable.into.list.items c.push.new.self.items (c.file_slot.result ∷ []) (file_slots told c.behind_variable-behind.result rest) (file_slots told behind (map declared_of (drop i all)))
          c.in_ok-push.ensures.items
          (ap (file_slots told behind) more ∙ ap₂ (λ slot next. slot ∷ file_slots told next rest) (sym c.file_slot.ensures) (sym c.behind_variable-behind.ensures))
          ∙ c.loop-variable.invariant.slots;
      taken = ap (λ next. behind_variables told next rest) c.behind_variable-behind.ensures ∙ sym (ap (behind_variables told behind) more) ∙ c.loop-variable.invariant.taken;
    }
