use Rattle.std.proofs.Common.{refl, rules}
use Rattle.fk_parse.proofs.Programs.{refuses, derives}
use Rattle.fk_parse.proofs.Sound.{derives_well_formed}
use Rattle.fk_parse.proofs.parser.parse.Goals as goal

pub returns-in_err-items-clause-refused : goal.returns-in_err-items-clause-refused
returns-in_err-items-clause-refused c =
    let r = refuses _ _ c.in_err-items.ensures.refused in
    search rules

pub returns-clause-program : goal.returns-clause-program
returns-clause-program c = derives _ _ c.in_ok-items.ensures.read c.end.ensures refl

pub returns-clause-well_formed : goal.returns-clause-well_formed
returns-clause-well_formed c =
    derives_well_formed _ _ (derives _ _ c.in_ok-items.ensures.read c.end.ensures refl)
