use Rattle.std.proofs.Common.{refl}
use Rattle.fk_types_name_rules.proofs.headers.later_name.Goals as goal

pub returns-in_err-name-clause-none : goal.returns-in_err-name-clause-none
returns-in_err-name-clause-none c = λ e name p. absurd (c.in_err-name.ensures.none refl name p)
