use Rattle.std.proofs.Common.{ℕ, List, [], Bor, get_or}
use Rattle.fk_ports.proofs.Pieces.{on_err, same_within, part_given}
use Rattle.fk_ports.proofs.sink.give_pieces.Goals as goal

pub returns-in_err-give_all-clause-prefix : goal.returns-in_err-give_all-clause-prefix
returns-in_err-give_all-clause-prefix g c =
    let none : Bor (List ℕ) = record { ref_ptr = (0, 0); now = [] } in
    let piece = get_or c.args.pieces.now c.loop-piece.piece-index none in
    on_err c.from_residual.result _
    (part_given (λ piece. piece.now) _ _ _ c.args.pieces.now c.loop-piece.piece-index piece c.loop-piece-test.true
    (same_within c.args.pieces.now c.loop-piece.piece-index none piece c.loop-piece-test.true) c.loop-piece.invariant.taken c.in_err-give_all.ensures.prefix)
