use Rattle.std.proofs.Common.{refl}
use Rattle.fk_types_kinds.proofs.kind.kind_of_array.Goals as goal

pub returns : goal.returns
returns c = (c.words.result, c.step.result, c.words.ensures.words, c.step.ensures, refl)
