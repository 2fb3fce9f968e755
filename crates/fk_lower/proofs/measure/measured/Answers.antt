use Rattle.std.proofs.Common.{arith}
use Rattle.fk_lower.proofs.Room.{room_by, within_at}
use Rattle.fk_lower.proofs.measure.measured.Goals as goal

pub before-span-requires-clause-within : goal.before-span-requires-clause-within
before-span-requires-clause-within c =
    within_at c.args.pieces.now c.args.near c.loop-index.index c.loop-index.span c.requires.measured c.loop-index.invariant.span

pub before-span-requires-clause-room : goal.before-span-requires-clause-room
before-span-requires-clause-room c =
    let more = c.loop-index-test.true in
    let within = c.loop-index.invariant.within in
    room_by c.args.pieces.now c.args.near c.loop-index.index _ _ c.loop-index.span (omega (arith, more)) within c.index-pieces-index.is
    c.loop-index.invariant.span c.requires.room
