use Rattle.std.proofs.Common.{◌≡◌, ◌<◌, length, Some, Option, Vec, Global, get_or, slice_get, refl, sym, ap, ◌∙◌, arith}
use Rattle.std.specs.Option.{option_map}
use Rattle.std.proofs.lemmas.Option.{slice_get-map, slice_get_read}
use Rattle.fk_types_structs.specs.declared.types.DataType.{DataType}
use Rattle.fk_types_structs.specs.Table.{types_of}
use Rattle.fk_types_structs.proofs.WordLemmas.{AreFound-either}
use Rattle.fk_types_structs.proofs.words.sweep.Goals as goal

pub loop-index-preserved : goal.loop-index-preserved
loop-index-preserved c =
    let index = get_or c.args.order.now c.loop-index.index-index 0 in
    let inside : get_or c.args.order.now c.loop-index.index-index 0 < length c.args.structs.now = c.requires.order c.loop-index.index-index 0 c.loop-index-test.true in
    let here : slice_get (types_of c.args.structs.now) (get_or c.args.order.now c.loop-index.index-index 0) ≡ Some c.deref.result.now =
    slice_get-map (λ (v : Vec (Option DataType) Global). v.items) c.args.structs.now index
    ∙ ap (option_map (λ (v : Vec (Option DataType) Global). v.items)) (slice_get_read c.args.structs.now (length c.args.structs.now) index c.index-structs-index.result refl inside c.index-structs-index.is)
    ∙ ap Some (sym c.deref.ensures.value) in
    AreFound-either (types_of c.args.structs.now) c.settle_struct.result c.loop-index.sizes c.settle_struct.new.sizes index c.deref.result.now
    (omega (arith, inside, c.loop-index.auto.sizes, c.requires.same_length)) here c.settle_struct.ensures.found c.settle_struct.ensures.stuck c.loop-index.invariant
