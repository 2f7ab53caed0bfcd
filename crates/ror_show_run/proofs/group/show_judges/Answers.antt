use Rattle.std.proofs.Common.{refl}
use Rattle.std.proofs.lemmas.Result.{err_from_is_err_and}
use Rattle.ror_frame.proofs.CourseLemmas.{stopped, went_on}
use Rattle.ror_show_run.proofs.group.show_judges.Goals as goal

pub returns-in_err-session : goal.returns-in_err-session
returns-in_err-session g c =
    let p = err_from_is_err_and c.from_residual.result c.from_residual.ensures.1 in
    rw (p.1, p.2) (stopped _ 1 _ _ _ _ _ _ _ _ _ refl c.in_err-session.ensures.fetch)

pub returns : goal.returns
returns g c = went_on _ 1 _ _ _ _ _ _ _ _ _ _ _ _ c.in_ok-session.ensures.fetch c.show_entries.ensures
