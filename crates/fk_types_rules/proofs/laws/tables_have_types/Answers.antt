use Rattle.fk_types_rules.proofs.Tokens.{are_types}
use Rattle.fk_types_rules.proofs.laws.tables_have_types.Goals as goal

pub returns : goal.returns
returns c = λ env program sound. are_types program sound env
