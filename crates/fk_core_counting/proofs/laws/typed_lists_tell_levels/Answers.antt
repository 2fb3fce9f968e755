use Rattle.fk_core_counting.proofs.Lists.{typed_lists_tell_levels}
use Rattle.fk_core_counting.proofs.laws.typed_lists_tell_levels.Goals as goal

pub returns : goal.returns
returns c = typed_lists_tell_levels
