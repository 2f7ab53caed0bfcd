use Rattle.std.proofs.Common.{List, inl, subst}
use Rattle.std.proofs.lemmas.Result.{err_from_is_err_and}
use Rattle.ror_session.specs.declared.session.Line.{Line}
use Rattle.ror_closing.specs.Closing.{AreSuited, IsFirstUnsuited}
use Rattle.ror_closing.proofs.LawLemmas.{one_first_unsuited}
use Rattle.ror_frame.specs.Stops.{counted}
use Rattle.ror_frame.proofs.FetchLemmas.{stopped_there, suited_there, unsuited_there}
use Rattle.ror_frame.proofs.files.fetch_suited.Goals as goal

pub returns-in_err-session-clause-fetch : goal.returns-in_err-session-clause-fetch
returns-in_err-session-clause-fetch g c =
    let p = err_from_is_err_and c.from_residual.result c.from_residual.ensures.1 in
    rw (p.1, p.2) (stopped_there _ (counted 2) _ _ _ _ _ _ _ (λ bytes r refused. inl refused) c.in_err-session.ensures.fetch)

pub returns-in-None-clause-fetch : goal.returns-in-None-clause-fetch
returns-in-None-clause-fetch g c =
    let session = c.in_ok-session.session in
    let suited = subst AreSuited c.as_slice.ensures c.in-None.ensures in
    suited_there IsFirstUnsuited _ _ _ session (λ line first. one_first_unsuited.not_suited session.lines line first suited) c.in_ok-session.ensures.fetch

pub returns-in-Some-clause-fetch : goal.returns-in-Some-clause-fetch
returns-in-Some-clause-fetch g c =
    let session = c.in_ok-session.session in
    let first = subst (λ (lines : List Line). IsFirstUnsuited lines c.in-Some.line) c.as_slice.ensures c.in-Some.ensures in
    unsuited_there IsFirstUnsuited _ _ _ session c.in-Some.line first c.in_ok-session.ensures.fetch
