use Rattle.fk_check_rules.proofs.LeastLemmas.{IsLeast-either}
use Rattle.fk_types_forms.proofs.PartLemmas.{least-same}
use Rattle.fk_types_forms.proofs.parts.Part.as_statement.Goals as goal

pub returns : goal.returns
returns c = λ env term is. IsLeast-either _ _ _ _ _ is.fault (least-same _ _ _ _ _ _ c.fault_if-own.ensures is.first (cc)) c.first_of.ensures
