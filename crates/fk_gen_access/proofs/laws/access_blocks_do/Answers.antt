use Rattle.fk_gen_access.proofs.Law.{access_blocks_do}
use Rattle.fk_gen_access.proofs.laws.access_blocks_do.Goals as goal

pub returns : goal.returns
returns c = access_blocks_do
