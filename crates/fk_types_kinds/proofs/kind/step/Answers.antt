use Rattle.std.proofs.Common.{refl}
use Rattle.fk_types_kinds.proofs.kind.step.Goals as goal

pub returns : goal.returns
returns c = (c.words.result, c.words.ensures.words, refl)
