use Rattle.fk_layout_globals.proofs.Leaving as leaving
use Rattle.fk_layout_globals.proofs.laws.leaves_its_worth.Goals as goal

pub returns : goal.returns
returns c = leaving.leaves_its_worth
