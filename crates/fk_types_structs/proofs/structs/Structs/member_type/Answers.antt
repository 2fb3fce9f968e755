use Rattle.std.proofs.Common.{◌≡◌, Some, Option, List, Vec, Global, length, slice_get, refl, sym, ap, subst, ◌∙◌}
use Rattle.std.specs.Option.{option_map, option_and_then, option_flatten}
use Rattle.std.proofs.lemmas.Option.{slice_get_read, slice_get-map}
use Rattle.fk_types_structs.specs.declared.types.DataType.{DataType}
use Rattle.fk_types_structs.specs.Table.{types_of}
use Rattle.fk_types_structs.specs.Whole.{structs_in}
use Rattle.fk_types_structs.proofs.LayoutLemmas.{member_type-at, item-slice_get, flatten-and_then}
use Rattle.fk_types_structs.proofs.structs.Structs.member_type.Goals as goal

pub returns : goal.returns
returns c =
    let index = c.args.index in
    let place = c.args.place in
    let kinds = c.args.self.now.kinds.items in
    let vec = c.in_ok-kinds.kinds.now in
    let pick : List (Option DataType) → Option DataType = λ ts. option_and_then (λ (t : Option DataType). t) (slice_get ts place) in
    let h = c.in_ok-kinds.ensures.lookup in
    let one : slice_get c.args.self.now.kinds.items c.args.index ≡ Some c.in_ok-kinds.kinds.now =
    subst (λ xs. slice_get xs c.args.index ≡ Some c.in_ok-kinds.kinds.now) c.deref.ensures.value (slice_get_read c.deref.result.now (length c.deref.result.now) c.args.index c.in_ok-kinds.kinds.now refl h.3.0 h.1) in
    let table : slice_get (types_of c.args.self.now.kinds.items) c.args.index ≡ Some c.in_ok-kinds.kinds.now.items =
    slice_get-map (λ (v : Vec (Option DataType) Global). v.items) kinds index ∙ ap (option_map (λ (v : Vec (Option DataType) Global). v.items)) one in
    c.flatten.ensures
    ∙ ap option_flatten (c.copied.ensures ∙ item-slice_get c.deref-2.result.now place c.get-2.result c.get-2.ensures.lookup ∙ ap (λ xs. slice_get xs place) c.deref-2.ensures.value)
    ∙ flatten-and_then (slice_get vec.items place)
    ∙ ap (option_and_then pick) (sym table)
    ∙ ap (λ ts. option_and_then pick (slice_get ts index)) c.requires.types
    ∙ sym (member_type-at (structs_in c.args.self.now) index place)
