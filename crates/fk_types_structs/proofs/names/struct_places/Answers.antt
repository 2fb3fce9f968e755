use Rattle.std.proofs.Common.{◌≡◌, ◌<◌, ◌≤◌, [], map, take, length, sym, ap, subst, ◌∙◌, arith}
use Rattle.std.proofs.lemmas.List.{length-map, length-take-le, get_or-map}
use Rattle.fk_types_structs.specs.Types.{StructTree}
use Rattle.fk_types_structs.specs.View.{outline_tree}
use Rattle.fk_types_structs.specs.Types.{names_of}
use Rattle.fk_types_structs.specs.View.{Finds}
use Rattle.fk_types_structs.proofs.NameLemmas.{take-names}
use Rattle.fk_types_structs.proofs.names.struct_places.Goals as goal

pub loop-place-preserved : goal.loop-place-preserved
loop-place-preserved c =
    let names = names_of (map outline_tree c.args.structs.now) in
    let place = c.loop-place.place in
    let length_is : length (names_of (map outline_tree c.args.structs.now)) ≡ length c.args.structs.now = length-map (map outline_tree c.args.structs.now) (λ (d : StructTree). d.name.bytes) ∙ length-map c.args.structs.now outline_tree in
    let within : c.loop-place.place < length (names_of (map outline_tree c.args.structs.now)) = omega (arith, length_is, c.loop-place-test.true) in
    let mapped : c.loop-place.place < length (map outline_tree c.args.structs.now) = omega (arith, length-map c.args.structs.now outline_tree, c.loop-place-test.true) in
    let short : c.loop-place.place ≤ length (names_of (map outline_tree c.args.structs.now)) = omega (arith, within) in
    let name = get_or-map (λ (d : StructTree). d.name.bytes) (map outline_tree c.args.structs.now) place (outline_tree c.index-structs-place.result) [] mapped
    ∙ ap (λ (d : StructTree). d.name.bytes) (get_or-map outline_tree c.args.structs.now place c.index-structs-place.result (outline_tree c.index-structs-place.result) c.loop-place-test.true ∙ ap outline_tree (sym c.index-structs-place.is)) in
    subst (Finds c.add.new.places.entries) (take-names names place c.index-structs-place.result.name.bytes.now within name)
    (c.in_ok-add.ensures (take place names) (sym (length-take-le place names short)) c.loop-place.invariant)
