use Rattle.std.proofs.Common.{Some}
use Rattle.fk_types_names.proofs.TableLemmas.{others_stay}
use Rattle.fk_types_names.proofs.table.Table.replace.Goals as goal

pub returns-clause-others : goal.returns-clause-others
returns-clause-others c = others_stay c.args.name.now c.args.self.now.marks c.insert.new.self (Some c.args.mark) c.in_ok-insert.ensures.updates
