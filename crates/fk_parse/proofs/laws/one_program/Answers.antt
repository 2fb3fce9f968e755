use Rattle.fk_parse.proofs.Texts as texts
use Rattle.fk_parse.proofs.laws.one_program.Goals as goal

pub returns : goal.returns
returns c = texts.one_tree
