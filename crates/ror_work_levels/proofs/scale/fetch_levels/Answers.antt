use Rattle.std.proofs.Common.{List, ℕ, subst}
use Rattle.std.proofs.lemmas.Result.{err_from_is_err_and}
use Rattle.ror_confidence.specs.declared.read.TheConstants.{MOST_LEVELS_BYTES}
use Rattle.ror_frame.specs.Stops.{counted}
use Rattle.ror_frame.specs.Courses.{ReadAs}
use Rattle.ror_frame.proofs.FetchLemmas.{stopped_there, read_there}
use Rattle.ror_work_levels.specs.Steps.{ReadsOver, RefusesOver}
use Rattle.ror_work_levels.proofs.Judging.{long_levels}
use Rattle.ror_work_levels.proofs.scale.fetch_levels.Goals as goal

pub returns-in_err-bytes-clause-fetch : goal.returns-in_err-bytes-clause-fetch
returns-in_err-bytes-clause-fetch g c =
    let p = err_from_is_err_and c.from_residual.result c.from_residual.ensures.1 in
    rw (p.1, p.2) (stopped_there _ (counted 3) _ _ _ _ _ _ _ (long_levels c.args.standing.now) c.in_err-bytes.ensures)
