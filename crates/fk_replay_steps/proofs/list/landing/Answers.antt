use Rattle.std.proofs.Common.{◌≡◌, Some, slice_get, true, sym, ◌∙◌}
use Rattle.fk_core.specs.Next.{is_jump}
use Rattle.fk_replay_steps.proofs.Landing.{on}
use Rattle.fk_replay_steps.proofs.ReadAt.{read_at}
use Rattle.fk_replay_steps.proofs.list.landing.Goals as goal

pub loop-preserved : goal.loop-preserved
loop-preserved c =
    let ops = c.args.ops.now in
    let op = c.in-Some.op.now in
    let read = c.in-Some.ensures.lookup in
    let there : slice_get ops c.loop.at ≡ Some op = read_at ops c.loop.at op read.3.0 read.3.1 in
    let jump : is_jump op ≡ true = cc in
    sym (on ops c.loop.counter c.loop.at op c.loop-test.true there jump) ∙ c.loop.invariant
