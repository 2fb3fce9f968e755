use Rattle.std.proofs.Common.{refl}
use Rattle.fk_isa.proofs.Held.{table, none}
use Rattle.fk_isa.proofs.laws.finds_row.Goals as goal

pub returns : goal.returns
returns c w = (table w _ refl, none w)
