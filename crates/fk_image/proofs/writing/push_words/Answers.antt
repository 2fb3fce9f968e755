use Rattle.std.proofs.Common.{arith}
use Rattle.std.proofs.lemmas.List.Elements.{All-from_get_or}
use Rattle.fk_image.specs.Spelling.{IsWord}
use Rattle.fk_image.proofs.writing.push_words.Goals as goal

pub returns-clause-words : goal.returns-clause-words
returns-clause-words c = All-from_get_or IsWord c.args.words.now 0 (λ i h. omega (arith, c.type_inv.words i))
