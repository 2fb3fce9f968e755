use Rattle.fk_types_names.specs.Outline.{outline}
use Rattle.fk_types_names.proofs.Apart.{apart_in}
use Rattle.fk_types_names.proofs.FindLemmas.{meaning_once}
use Rattle.fk_types_names.proofs.laws.one_meaning.Goals as goal

pub returns : goal.returns
returns c = λ program token m n sound a b. meaning_once (outline program) program.tokens token m n (apart_in program sound) a b
