use Rattle.fk_types_structs.specs.Table.{types_of, AreFound}
use Rattle.fk_types_structs.proofs.words.sweep.Given as goal

abbrev pub invariant-loop-index : goal.invariant-loop-index
invariant-loop-index l = AreFound (types_of l.structs) l.sizes
