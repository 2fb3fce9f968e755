use Rattle.fk_top_words.proofs.commands.bare.Goals as goal

pub returns : goal.returns
returns c = record { shape = c.new.ensures.app; local = c.new.ensures.local }
