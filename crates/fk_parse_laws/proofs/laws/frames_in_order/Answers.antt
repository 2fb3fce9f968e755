use Rattle.fk_parse_laws.proofs.Ordered as ordered
use Rattle.fk_parse_laws.proofs.laws.frames_in_order.Goals as goal

pub returns : goal.returns
returns c = ordered.frames_in_order
