use Rattle.fk_core_typing.proofs.DepthRuns.{local_depths_are_depths}
use Rattle.fk_core_typing.proofs.laws.local_depths_are_depths.Goals as goal

pub returns : goal.returns
returns c = local_depths_are_depths
