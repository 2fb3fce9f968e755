use Rattle.fk_types_kinds.proofs.Sets.{has_number}
use Rattle.fk_types_kinds.proofs.numbers.is_kind.Goals as goal

pub returns-in-Some : goal.returns-in-Some
returns-in-Some c = has_number c.args.met.now.keys c.args.number c.in-Some.known.now c.args.row c.in-Some.ensures.key c.eq.result c.eq.ensures
