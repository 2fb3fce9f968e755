use Rattle.std.proofs.Common.{rules}
use Rattle.fk_image.specs.Spelling.{word_bytes}
use Rattle.fk_image.proofs.writing.push_word.Goals as goal

pub returns : goal.returns
unfolding word_bytes
returns c = search rules
