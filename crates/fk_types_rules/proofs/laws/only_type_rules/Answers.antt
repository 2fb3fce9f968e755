use Rattle.fk_types_rules.proofs.Low.{low_program}
use Rattle.fk_types_rules.proofs.laws.only_type_rules.Goals as goal

pub returns : goal.returns
returns c = λ env program place rule h. low_program env program place rule h
