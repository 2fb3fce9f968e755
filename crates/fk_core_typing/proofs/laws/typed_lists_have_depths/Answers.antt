use Rattle.fk_core_typing.proofs.Depths.{typed_lists_have_depths}
use Rattle.fk_core_typing.proofs.laws.typed_lists_have_depths.Goals as goal

pub returns : goal.returns
returns c = typed_lists_have_depths
