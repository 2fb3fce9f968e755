use Rattle.std.proofs.Common.{◌≡◌, Some, length, slice_get, refl, sym, ap, subst, ◌∙◌}
use Rattle.std.specs.Option.{option_and_then}
use Rattle.std.proofs.lemmas.Option.{slice_get_read}
use Rattle.fk_types_structs.specs.Types.{StructTree, first_of, member_names}
use Rattle.fk_types_structs.specs.Table.{sizes_of}
use Rattle.fk_types_structs.specs.Whole.{structs_in}
use Rattle.fk_types_structs.proofs.LayoutLemmas.{AreLayouts-at}
use Rattle.fk_types_structs.proofs.structs.Structs.find_member.Goals as goal

pub returns : goal.returns
returns c =
    let h = c.in_ok-layout.ensures.lookup in
    let there = subst (λ xs. slice_get xs c.args.index ≡ Some c.in_ok-layout.layout.now) c.deref.ensures.value (slice_get_read c.deref.result.now (length c.deref.result.now) c.args.index c.in_ok-layout.layout.now refl h.3.0 h.1) in
    let at = AreLayouts-at (sizes_of c.args.self.now.sizes.items) (structs_in c.args.self.now) c.args.self.now.layouts.items c.args.index c.in_ok-layout.layout.now c.requires.layouts there in
    c.place_of.ensures (member_names at.0.members) at.2.places
    ∙ sym (ap (option_and_then (λ (s : StructTree). first_of c.args.name.now (member_names s.members))) at.1)
