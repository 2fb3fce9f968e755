use Rattle.fk_types_rules.proofs.Tokens.{tokens_apart}
use Rattle.fk_types_rules.proofs.laws.tokens_are_apart.Goals as goal

pub returns : goal.returns
returns c = tokens_apart
