use Rattle.fk_compile.proofs.Untrapped.{never_traps}
use Rattle.fk_compile.proofs.laws.never_traps.Goals as goal

pub returns : goal.returns
returns c = never_traps
