use Rattle.fk_core_typing.proofs.Enough.{knowledge_is_enough}
use Rattle.fk_core_typing.proofs.laws.knowledge_is_enough.Goals as goal

pub returns : goal.returns
returns c = knowledge_is_enough
