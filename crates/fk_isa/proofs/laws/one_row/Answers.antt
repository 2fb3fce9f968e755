use Rattle.std.proofs.Common.{sym, ◌∙◌}
use Rattle.fk_isa.proofs.Found.{found}
use Rattle.fk_isa.proofs.laws.one_row.Goals as goal

pub returns : goal.returns
returns c w i j p q = let e = sym (found w i p) ∙ found w j q in cc
