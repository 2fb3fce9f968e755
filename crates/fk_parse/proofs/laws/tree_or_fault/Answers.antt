use Rattle.fk_parse.proofs.Texts as texts
use Rattle.fk_parse.proofs.laws.tree_or_fault.Goals as goal

pub returns : goal.returns
returns c = texts.has_tree_or_fault
