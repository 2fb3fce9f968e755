use Rattle.clap.specs.Simple.{new_app}
use Rattle.fk_top_words.specs.Arguments.{File}
use Rattle.fk_top_words.specs.Written.{written}
use Rattle.fk_top_words.proofs.commands.reading.Goals as goal

pub returns : goal.returns
returns c = c.taking.ensures (new_app c.args.name.now) (written File) c.file.ensures.rule (record { shape = c.new.ensures.app; local = c.new.ensures.local })
