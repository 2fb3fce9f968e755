use Rattle.fk_compile.proofs.Small.{lists_are_small}
use Rattle.fk_compile.proofs.laws.lists_are_small.Goals as goal

pub returns : goal.returns
returns c = lists_are_small
