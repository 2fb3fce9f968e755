use Rattle.std.proofs.Common.{◌≡◌, ◌+◌, length, Some, Option, refl, sym, ap, subst, ◌∙◌, arith, slice_get}
use Rattle.std.specs.Option.{option_map}
use Rattle.std.specs.Prelude.{Vec}
use Rattle.std.specs.declared.alloc.Global.{Global}
use Rattle.std.proofs.lemmas.Option.{slice_get-map, slice_get_read}
use Rattle.fk_types_structs.specs.declared.types.DataType.{DataType}
use Rattle.fk_types_structs.specs.Table.{types_of}
use Rattle.fk_types_structs.proofs.WordLemmas.{SoFar, SoFar-then, SoFar-else}
use Rattle.fk_types_structs.proofs.words.settle.Goals as goal
use Rattle.fk_types_structs.proofs.words.settle.Goals.{then-settle_struct, else-settle_struct}

here : (c : goal.Joined-settle_struct) → slice_get (types_of c.args.structs.now) c.loop-index.index ≡ Some c.deref.result.now
here c =
    slice_get-map (λ (v : Vec (Option DataType) Global). v.items) c.args.structs.now c.loop-index.index
    ∙ ap (option_map (λ (v : Vec (Option DataType) Global). v.items)) (slice_get_read c.args.structs.now (length c.args.structs.now) c.loop-index.index c.index-structs-index.result refl c.loop-index-test.true c.index-structs-index.is)
    ∙ ap Some (sym c.deref.ensures.value)

pub loop-index-preserved : goal.loop-index-preserved
loop-index-preserved c = elim c.if-settle_struct.branch [
  | then-settle_struct w ↦ subst (λ b. SoFar (types_of c.args.structs.now) c.args.sizes.now c.settle_struct.new.sizes b (c.loop-index.index + 1)) (sym w.found-is)
      (SoFar-then (types_of c.args.structs.now) c.args.sizes.now c.loop-index.sizes c.settle_struct.new.sizes c.loop-index.found c.loop-index.index c.deref.result.now c.loop-index.invariant (omega arith) (here c) w.if-settle_struct.ensures.found)
  | else-settle_struct w ↦ subst (λ b. SoFar (types_of c.args.structs.now) c.args.sizes.now c.settle_struct.new.sizes b (c.loop-index.index + 1)) (sym w.found-is)
      (SoFar-else (types_of c.args.structs.now) c.args.sizes.now c.loop-index.sizes c.settle_struct.new.sizes c.loop-index.found c.loop-index.index c.deref.result.now c.loop-index.invariant (here c) w.if-settle_struct.ensures.stuck w.if-settle_struct.ensures.none)
]
