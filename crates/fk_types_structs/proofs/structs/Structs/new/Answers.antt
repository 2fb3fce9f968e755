use Rattle.std.proofs.Common.{◌≡◌, map, subst, arith}
use Rattle.std.proofs.lemmas.List.{length-map}
use Rattle.fk_types_structs.specs.Types.{names_of, all_types}
use Rattle.fk_types_structs.specs.Table.{sizes_of, types_of, AreWords}
use Rattle.fk_types_structs.specs.View.{outline_tree, Finds}
use Rattle.fk_types_structs.specs.Layouts.{AreLayouts}
use Rattle.fk_types_structs.proofs.structs.Structs.new.Goals as goal

pub returns-clause-sound : goal.returns-clause-sound
returns-clause-sound c =
    let structs = map outline_tree c.in_ok-outlines.outlines.items in
    let types : types_of c.in_ok-kinds.kinds.items ≡ all_types (map outline_tree c.in_ok-outlines.outlines.items) =
    subst (λ xs. types_of c.in_ok-kinds.kinds.items ≡ all_types (map outline_tree xs)) c.deref-2.ensures.value c.in_ok-kinds.ensures in
    record {
      few = omega (arith, length-map c.in_ok-outlines.outlines.items outline_tree, c.len.ensures);
      places = subst (λ xs. Finds c.in_ok-places.places.entries (names_of (map outline_tree xs))) c.deref.ensures.value c.in_ok-places.ensures;
      types = types;
      sizes = subst (λ ts. AreWords ts c.in_ok-sizes.sizes.items) types (subst (λ xs. AreWords (types_of xs) c.in_ok-sizes.sizes.items) c.deref-3.ensures.value c.in_ok-sizes.ensures);
      layouts = subst (λ sizes. AreLayouts (sizes_of sizes) structs c.in_ok-layouts.layouts.items) c.deref-6.ensures.value
          (subst (λ xs. AreLayouts (sizes_of c.deref-6.result.now) (map outline_tree xs) c.in_ok-layouts.layouts.items) c.deref-4.ensures.value c.in_ok-layouts.ensures);
    }
