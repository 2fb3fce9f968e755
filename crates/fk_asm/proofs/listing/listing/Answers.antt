use Rattle.std.proofs.Common.{refl}
use Rattle.fk_asm.proofs.listing.listing.Goals as goal

pub returns-in-Some-clause-no_row : goal.returns-in-Some-clause-no_row
returns-in-Some-clause-no_row c = λ none. absurd (none c.in-Some.instruction ((c.in-Some.ensures.table c.in-Some.instruction).0 refl))
