use Rattle.std.proofs.Common.{arith}
use Rattle.fk_top_tests.proofs.replays.replayed.Goals as goal

pub replay-requires-clause-room : goal.replay-requires-clause-room
replay-requires-clause-room c = let few = c.in_ok-listed.ensures.few in omega (arith, few)

pub replay-requires-clause-trace : goal.replay-requires-clause-trace
replay-requires-clause-trace c = record { text = c.args.bytes.now; told = c.in_ok-trace.ensures.trace }
