use Rattle.fk_gen_access.proofs.Law.{access_blocks_keep}
use Rattle.fk_gen_access.proofs.laws.access_blocks_keep.Goals as goal

pub returns : goal.returns
returns c = access_blocks_keep
