use Rattle.fk_core_typing.proofs.Knowing.{typed_lists_know}
use Rattle.fk_core_typing.proofs.laws.typed_lists_know.Goals as goal

pub returns : goal.returns
returns c = typed_lists_know
