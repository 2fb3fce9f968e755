use Rattle.std.proofs.Common.{◌≡◌, flat_map, take}
use Rattle.std.specs.Io.KnownBytes.{append_known}
use Rattle.fk_ports.proofs.sink.give_pieces.Given as goal

abbrev pub invariant-loop-piece : goal.invariant-loop-piece
invariant-loop-piece g l = record {
  taken : g.K.Sink.taken l.sink ≡ append_known (g.K.Sink.taken l.initial.sink) (flat_map (λ piece. piece.now) (take l.piece-index l.fn.pieces));
  steady : g.K.Sink.faults l.sink ≡ g.K.Sink.faults l.initial.sink;
}
