use Rattle.fk_compile.proofs.Sites.{sites_are_own}
use Rattle.fk_compile.proofs.laws.sites_are_own.Goals as goal

pub returns : goal.returns
returns c = sites_are_own
