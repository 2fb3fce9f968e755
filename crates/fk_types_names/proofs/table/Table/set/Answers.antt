use Rattle.std.proofs.Common.{None}
use Rattle.fk_types_names.proofs.TableLemmas.{others_stay}
use Rattle.fk_types_names.proofs.table.Table.set.Goals as goal

pub returns-in-None-clause-others : goal.returns-in-None-clause-others
returns-in-None-clause-others c = others_stay c.args.name.now c.args.self.now.marks c.swap_remove.new.self None c.swap_remove.ensures.updates
