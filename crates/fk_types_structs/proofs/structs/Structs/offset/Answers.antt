use Rattle.std.proofs.Common.{◌≡◌, Some, length, slice_get, refl, ap, subst, ◌∙◌}
use Rattle.std.specs.Option.{option_flatten}
use Rattle.std.proofs.lemmas.Option.{slice_get_read}
use Rattle.fk_types_structs.specs.Table.{sizes_of}
use Rattle.fk_types_structs.specs.Whole.{structs_in}
use Rattle.fk_types_structs.proofs.LayoutLemmas.{AreLayouts-at, item-slice_get, offset-some, offset-none}
use Rattle.fk_types_structs.proofs.structs.Structs.offset.Goals as goal

pub returns-clause-some : goal.returns-clause-some
returns-clause-some c =
    let h = c.in_ok-layout.ensures.lookup in
    let there = subst (λ xs. slice_get xs c.args.index ≡ Some c.in_ok-layout.layout.now) c.deref.ensures.value (slice_get_read c.deref.result.now (length c.deref.result.now) c.args.index c.in_ok-layout.layout.now refl h.3.0 h.1) in
    let at = AreLayouts-at (sizes_of c.args.self.now.sizes.items) (structs_in c.args.self.now) c.args.self.now.layouts.items c.args.index c.in_ok-layout.layout.now c.requires.layouts there in
    offset-some (structs_in c.args.self.now) c.args.index c.args.place at.0 at.1 c.args.self.now.sizes.items c.in_ok-layout.layout.now.offsets.items c.requires.sizes at.2.offsets c.flatten.result
    (c.flatten.ensures ∙ ap option_flatten (c.copied.ensures ∙ item-slice_get c.deref-2.result.now c.args.place c.get-2.result c.get-2.ensures.lookup ∙ ap (λ xs. slice_get xs c.args.place) c.deref-2.ensures.value))

pub returns-clause-none : goal.returns-clause-none
returns-clause-none c =
    let h = c.in_ok-layout.ensures.lookup in
    let there = subst (λ xs. slice_get xs c.args.index ≡ Some c.in_ok-layout.layout.now) c.deref.ensures.value (slice_get_read c.deref.result.now (length c.deref.result.now) c.args.index c.in_ok-layout.layout.now refl h.3.0 h.1) in
    let at = AreLayouts-at (sizes_of c.args.self.now.sizes.items) (structs_in c.args.self.now) c.args.self.now.layouts.items c.args.index c.in_ok-layout.layout.now c.requires.layouts there in
    offset-none (structs_in c.args.self.now) c.args.index c.args.place at.0 at.1 c.args.self.now.sizes.items c.in_ok-layout.layout.now.offsets.items c.requires.sizes at.2.offsets c.flatten.result
    (c.flatten.ensures ∙ ap option_flatten (c.copied.ensures ∙ item-slice_get c.deref-2.result.now c.args.place c.get-2.result c.get-2.ensures.lookup ∙ ap (λ xs. slice_get xs c.args.place) c.deref-2.ensures.value))
