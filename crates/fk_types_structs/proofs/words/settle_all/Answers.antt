use Rattle.std.proofs.Common.{Option, Global, Vec, sym, ◌∙◌}
use Rattle.std.proofs.lemmas.List.{length-map}
use Rattle.fk_types_structs.specs.declared.types.DataType.{DataType}
use Rattle.fk_types_structs.specs.Table.{types_of}
use Rattle.fk_types_structs.proofs.WordLemmas.{AreWords-stuck}
use Rattle.fk_types_structs.proofs.words.settle_all.Goals as goal

pub returns : goal.returns
returns c = AreWords-stuck (types_of c.args.structs.now) c.settle.new.sizes
    (c.settle.auto.sizes ∙ c.loop.auto.sizes ∙ c.requires.same_length ∙ sym (length-map c.args.structs.now (λ (v : Vec (Option DataType) Global). v.items)))
    (c.settle.ensures.found c.loop.invariant)
    c.loop-test.ensures.stuck
