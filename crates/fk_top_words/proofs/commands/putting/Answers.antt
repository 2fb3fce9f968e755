use Rattle.fk_top_words.specs.Arguments.{Image}
use Rattle.fk_top_words.specs.Written.{leaf, list_parts, written}
use Rattle.fk_top_words.proofs.commands.putting.Goals as goal

pub returns : goal.returns
returns c = c.taking.ensures (leaf c.args.name.now list_parts) (written Image) c.image.ensures.rule c.reading.ensures
