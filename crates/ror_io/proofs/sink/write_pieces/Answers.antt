use Rattle.std.proofs.Common.{◌∙◌}
use Rattle.std.proofs.lemmas.Result.{err_from_is_err_and}
use Rattle.ror_io.proofs.Writes.{Grew-piece, GrewShort-piece}
use Rattle.ror_io.proofs.sink.write_pieces.Goals as goal

pub returns-in_err-write_all-clause-short : goal.returns-in_err-write_all-clause-short
returns-in_err-write_all-clause-short g c =
    let p = err_from_is_err_and c.from_residual.result c.from_residual.ensures.1 in
    rw p.1 (GrewShort-piece _ _ _ _ _ _ c.loop-piece-test.true c.loop-piece.invariant.1 c.in_err-write_all.ensures.short)

pub loop-piece-preserved : goal.loop-piece-preserved
loop-piece-preserved g c =
    (c.in_ok-write_all.ensures.ok ∙ c.loop-piece.invariant.0, Grew-piece _ _ _ _ _ _ c.loop-piece-test.true c.loop-piece.invariant.1 c.in_ok-write_all.ensures.all_taken)
