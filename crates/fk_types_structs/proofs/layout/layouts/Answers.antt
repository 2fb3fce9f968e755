use Rattle.std.proofs.Common.{◌≡◌, ◌+◌, ◌<◌, map, length, Some, Option, Vec, Global, slice_get, refl, sym, ap, subst, ◌∙◌, arith}
use Rattle.std.specs.Option.{option_map}
use Rattle.std.proofs.lemmas.Option.{slice_get-map, slice_get_read, same_Some}
use Rattle.std.proofs.lemmas.List.{length-map}
use Rattle.fk_types_structs.specs.declared.layout.Layout.{Layout}
use Rattle.fk_types_structs.specs.declared.types.DataType.{DataType}
use Rattle.fk_types_structs.specs.Types.{all_types, member_types}
use Rattle.fk_types_structs.specs.Table.{sizes_of, types_of, AreOffsets}
use Rattle.fk_types_structs.specs.View.{outline_tree}
use Rattle.fk_types_structs.specs.Layouts.{AreFirstLayouts, IsLayout}
use Rattle.fk_types_structs.proofs.LayoutLemmas.{AreLayouts-next}
use Rattle.fk_types_structs.proofs.layout.layouts.Goals as goal

here : (c : goal.In_ok-push) → slice_get (map outline_tree c.args.structs.now) c.loop-index.index ≡ Some (outline_tree c.index-structs-index.result)
here c = slice_get-map outline_tree c.args.structs.now c.loop-index.index
    ∙ ap (option_map outline_tree) (slice_get_read c.args.structs.now (length c.args.structs.now) c.loop-index.index c.index-structs-index.result refl c.loop-index-test.true c.index-structs-index.is)

types_here : (c : goal.In_ok-push) → c.deref.result.now ≡ member_types (map outline_tree c.args.structs.now) (outline_tree c.index-structs-index.result)
types_here c =
    let trees = map outline_tree c.args.structs.now in
    let same = length-map c.args.kinds.now (λ (v : Vec (Option DataType) Global). v.items) in
    let equal : length (types_of c.args.kinds.now) ≡ length (all_types (map outline_tree c.args.structs.now)) = ap length c.requires in
    let all = length-map (map outline_tree c.args.structs.now) (member_types (map outline_tree c.args.structs.now)) in
    let within : c.loop-index.index < length c.args.kinds.now = omega (arith, same, equal, all, length-map c.args.structs.now outline_tree, c.loop-index-test.true) in
    let left : slice_get (types_of c.args.kinds.now) c.loop-index.index ≡ Some c.index-kinds-index.result.items = slice_get-map (λ (v : Vec (Option DataType) Global). v.items) c.args.kinds.now c.loop-index.index
    ∙ ap (option_map (λ (v : Vec (Option DataType) Global). v.items)) (slice_get_read c.args.kinds.now (length c.args.kinds.now) c.loop-index.index c.index-kinds-index.result refl within c.index-kinds-index.is) in
    let right : slice_get (all_types (map outline_tree c.args.structs.now)) c.loop-index.index ≡ Some (member_types (map outline_tree c.args.structs.now) (outline_tree c.index-structs-index.result)) =
    slice_get-map (member_types (map outline_tree c.args.structs.now)) (map outline_tree c.args.structs.now) c.loop-index.index ∙ ap (option_map (member_types (map outline_tree c.args.structs.now))) (here c) in
    c.deref.ensures.value ∙ same_Some c.index-kinds-index.result.items (member_types trees (outline_tree c.index-structs-index.result)) (sym left ∙ ap (λ xs. slice_get xs c.loop-index.index) c.requires ∙ right)

pub loop-index-preserved : goal.loop-index-preserved
loop-index-preserved c =
    let trees = map outline_tree c.args.structs.now in
    let sizes = sizes_of c.args.sizes.now in
    let layout : Layout = record { places = c.in_ok-member_places.field-0; offsets = c.in_ok-offsets.field-0 } in
    subst (AreFirstLayouts sizes trees (c.loop-index.index + 1)) (sym c.in_ok-push.ensures.items)
    (AreLayouts-next sizes trees c.loop-index.index c.loop-index.layouts.items layout c.loop-index.invariant
    (λ s at. subst (λ t. IsLayout sizes trees t layout) (same_Some (outline_tree c.index-structs-index.result) s (sym (here c) ∙ at)) (record {
      places = c.in_ok-member_places.ensures;
      offsets = subst (λ ts. AreOffsets sizes ts c.in_ok-offsets.field-0.items) (types_here c) c.in_ok-offsets.ensures;
    })))

pub returns : goal.returns
returns c =
    let whole : c.loop-index.index ≡ length (map outline_tree c.args.structs.now) = omega (arith, length-map c.args.structs.now outline_tree, c.loop-index-test.false, c.loop-index.auto.index-end) in
    subst (λ n. AreFirstLayouts (sizes_of c.args.sizes.now) (map outline_tree c.args.structs.now) n c.loop-index.layouts.items) whole c.loop-index.invariant
