use Rattle.std.proofs.Common.{◌≡◌, take}
use Rattle.ror_io.specs.Writing.{Grew, joined}
use Rattle.ror_io.proofs.sink.write_pieces.Given as goal

abbrev pub invariant-loop-piece : goal.invariant-loop-piece
invariant-loop-piece g l =
    (g.S.Sink.faults l.sink ≡ g.S.Sink.faults l.fn.sink) × Grew (g.S.Sink.written l.fn.sink) (g.S.Sink.written l.sink) (joined (take l.piece-index l.pieces))
