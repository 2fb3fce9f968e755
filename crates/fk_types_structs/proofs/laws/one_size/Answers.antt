use Rattle.fk_types_structs.specs.Types.{all_types}
use Rattle.fk_types_structs.proofs.WordLemmas.{one-type}
use Rattle.fk_types_structs.proofs.laws.one_size.Goals as goal

pub returns : goal.returns
returns c = λ structs type m n p q. one-type (all_types structs) type m n p q
