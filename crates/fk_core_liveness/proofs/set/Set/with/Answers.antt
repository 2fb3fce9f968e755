use Rattle.std.proofs.Common.{◌<◌, ◌≤◌, arith}
use Rattle.fk_core_liveness.proofs.Bits.{with_number, with_none}
use Rattle.fk_core_liveness.proofs.set.Set.with.Goals as goal

pub returns-then-number-lt64 : goal.returns-then-number-lt64
returns-then-number-lt64 c n = let few : c.args.number < 64 = omega arith in with_number c.args.self.now.mask c.args.number n few

pub returns-else-number-lt64 : goal.returns-else-number-lt64
returns-else-number-lt64 c n = let many : 64 ≤ c.args.number = omega arith in with_none c.args.self.now.mask c.args.number n many
