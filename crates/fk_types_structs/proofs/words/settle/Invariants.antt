use Rattle.fk_types_structs.specs.Table.{types_of}
use Rattle.fk_types_structs.proofs.WordLemmas.{SoFar}
use Rattle.fk_types_structs.proofs.words.settle.Given as goal

abbrev pub invariant-loop-index : goal.invariant-loop-index
invariant-loop-index l = SoFar (types_of l.structs) l.initial.sizes l.sizes l.found l.index
