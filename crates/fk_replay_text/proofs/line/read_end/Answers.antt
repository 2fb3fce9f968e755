use Rattle.std.proofs.Common.{decimal}
use Rattle.fk_replay_text.proofs.Told.{line_end}
use Rattle.fk_replay_text.proofs.line.read_end.Goals as goal

pub returns-in_err-after-clause-line : goal.returns-in_err-after-clause-line
returns-in_err-after-clause-line c = rw c.from_residual.ensures (λ cycles small e. c.in_err-after.ensures (decimal cycles) (line_end c.args.line.now cycles e))
