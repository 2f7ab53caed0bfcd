use Rattle.std.proofs.Common.{List, inl, subst}
use Rattle.std.proofs.lemmas.Result.{err_from_is_err_and}
use Rattle.ror_session.specs.declared.session.Line.{Line}
use Rattle.ror_frame.specs.Stops.{counted}
use Rattle.ror_frame.proofs.FetchLemmas.{stopped_there, suited_there, unsuited_there}
use Rattle.ror_work_levels.specs.Suiting.{AreFit, IsFirstUnfit}
use Rattle.ror_work_levels.proofs.Suits.{not_fit}
use Rattle.ror_work_levels.proofs.fit.fetch_fit.Goals as goal

pub returns-in_err-session-clause-fetch : goal.returns-in_err-session-clause-fetch
returns-in_err-session-clause-fetch g c =
    let p = err_from_is_err_and c.from_residual.result c.from_residual.ensures.1 in
    rw (p.1, p.2) (stopped_there _ (counted 2) _ _ _ _ _ _ _ (λ bytes r refused. inl refused) c.in_err-session.ensures.fetch)

pub returns-in-None-clause-fetch : goal.returns-in-None-clause-fetch
returns-in-None-clause-fetch g c =
    let session = c.in_ok-session.session in
    let fit = subst AreFit c.as_slice.ensures c.in-None.ensures in
    suited_there IsFirstUnfit _ _ _ session (λ line first. not_fit session.lines line first fit) c.in_ok-session.ensures.fetch

pub returns-in-Some-clause-fetch : goal.returns-in-Some-clause-fetch
returns-in-Some-clause-fetch g c =
    let session = c.in_ok-session.session in
    let first = subst (λ (lines : List Line). IsFirstUnfit lines c.in-Some.line) c.as_slice.ensures c.in-Some.ensures in
    unsuited_there IsFirstUnfit _ _ _ session c.in-Some.line first c.in_ok-session.ensures.fetch
