use Rattle.std.proofs.Common.{◌∙◌}
use Rattle.fk_compile_text.proofs.built.Built.tables.Goals as goal

pub complete-requires : goal.complete-requires
complete-requires c = c.requires.finds c.known_of-known.result c.known_of-known.ensures.tables c.known_of-known.ensures.items

pub returns-clause-tables : goal.returns-clause-tables
returns-clause-tables c = c.complete.ensures.tables ∙ c.known_of-known.ensures.tables

pub returns-clause-items : goal.returns-clause-items
returns-clause-items c = c.complete.ensures.items ∙ c.known_of-known.ensures.items
