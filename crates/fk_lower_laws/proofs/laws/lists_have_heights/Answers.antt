use Rattle.fk_lower_laws.proofs.TallLists.{lists_have_heights}
use Rattle.fk_lower_laws.proofs.laws.lists_have_heights.Goals as goal

pub returns : goal.returns
returns c = lists_have_heights
