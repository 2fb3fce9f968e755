use Rattle.fk_isa.proofs.Held.{table}
use Rattle.fk_isa.proofs.InRange.{found_fits}
use Rattle.fk_isa.proofs.decoder.decode.Goals as goal

pub returns-clause-table : goal.returns-clause-table
returns-clause-table c = table c.args.word c.row_of.result c.row_of.ensures

pub returns-clause-fits : goal.returns-clause-fits
returns-clause-fits c = found_fits c.args.word c.row_of.result c.row_of.ensures
