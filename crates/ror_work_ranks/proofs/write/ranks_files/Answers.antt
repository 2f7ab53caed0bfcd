use Rattle.std.proofs.Common.{refl}
use Rattle.std.proofs.lemmas.Result.{err_from_is_err_and}
use Rattle.ror_frame.proofs.CourseLemmas.{stopped, went_on, finished}
use Rattle.ror_work_ranks.proofs.write.ranks_files.Goals as goal

pub returns-in_err-input : goal.returns-in_err-input
returns-in_err-input g c =
    let p = err_from_is_err_and c.from_residual.result c.from_residual.ensures.1 in
    rw (p.1, p.2) (stopped _ 0 _ _ _ _ _ _ _ _ _ refl c.in_err-input.ensures.fetch)

pub returns-in_err-session : goal.returns-in_err-session
returns-in_err-session g c =
    let p = err_from_is_err_and c.from_residual-in_err-session.result c.from_residual-in_err-session.ensures.1 in
    rw (p.1, p.2) (went_on _ 0 _ _ _ _ _ _ _ _ _ _ _ _ c.in_ok-input.ensures.fetch (stopped _ 1 _ _ _ _ _ _ _ _ _ refl c.in_err-session.ensures.fetch))

pub returns : goal.returns
returns g c =
    went_on _ 0 _ _ _ _ _ _ _ _ _ _ _ _ c.in_ok-input.ensures.fetch (went_on _ 1 _ _ _ _ _ _ _ _ _ _ _ _ c.in_ok-session.ensures.fetch (finished 2 _ _ _ _ _ c.write_report.ensures))
