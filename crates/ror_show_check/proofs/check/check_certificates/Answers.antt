use Rattle.std.proofs.Common.{refl, false}
use Rattle.std.proofs.lemmas.Result.{err_from_is_err_and}
use Rattle.ror_frame.proofs.CourseLemmas.{stopped, went_on, finished, line_holds}
use Rattle.ror_show_check.specs.Checking.{accepted_line}
use Rattle.ror_show_check.specs.Truth.{AreTrueOf}
use Rattle.ror_show_check.proofs.Checking.{fetched_short}
use Rattle.ror_show_check.proofs.Stood.{accepted_true}
use Rattle.ror_show_check.proofs.check.check_certificates.Goals as goal

pub returns-in_err-input : goal.returns-in_err-input
returns-in_err-input g c =
    let p = err_from_is_err_and c.from_residual.result c.from_residual.ensures.1 in
    rw (p.1, p.2) (stopped _ 0 _ _ _ _ _ _ _ _ _ refl c.in_err-input.ensures.fetch)

pub returns-in_err-session : goal.returns-in_err-session
returns-in_err-session g c =
    let p = err_from_is_err_and c.from_residual-in_err-session.result c.from_residual-in_err-session.ensures.1 in
    rw (p.1, p.2) (went_on _ 0 _ _ _ _ _ _ _ _ _ _ _ _ c.in_ok-input.ensures.fetch (stopped _ 1 _ _ _ _ _ _ _ _ _ refl c.in_err-session.ensures.fetch))

pub returns-in_err-text : goal.returns-in_err-text
returns-in_err-text g c =
    let p = err_from_is_err_and c.from_residual-in_err-text.result c.from_residual-in_err-text.ensures.1 in
    rw (p.1, p.2) (went_on _ 0 _ _ _ _ _ _ _ _ _ _ _ _ c.in_ok-input.ensures.fetch (went_on _ 1 _ _ _ _ _ _ _ _ _ _ _ _ c.in_ok-session.ensures.fetch (stopped _ 2 _ _ _ _ _ _ _ _ _ refl c.in_err-text.ensures)))

pub fetch_count-requires-clause-within : goal.fetch_count-requires-clause-within
fetch_count-requires-clause-within g c = let third = c.in_ok-text.ensures in fetched_short third.fetched.1 c.in_ok-text.text third.fetched.3

pub returns-in_err-count : goal.returns-in_err-count
returns-in_err-count g c =
    let p = err_from_is_err_and c.from_residual-in_err-count.result c.from_residual-in_err-count.ensures.1 in
    rw (p.1, p.2) (went_on _ 0 _ _ _ _ _ _ _ _ _ _ _ _ c.in_ok-input.ensures.fetch (went_on _ 1 _ _ _ _ _ _ _ _ _ _ _ _ c.in_ok-session.ensures.fetch (went_on _ 2 _ _ _ _ _ _ _ _ _ _ _ _ c.in_ok-text.ensures (stopped _ 3 _ _ _ _ _ _ _ _ _ refl c.in_err-count.ensures))))

pub returns : goal.returns
returns g c =
    let i = c.in_ok-input.input in
    let s = c.in_ok-session.session in
    let text = c.in_ok-text.text in
    let count = c.in_ok-count.count in
    let fourth = c.in_ok-count.ensures in
    let report = fourth.fetched.1 in
    let holds = accepted_true i s text report count c.in_ok-input.ensures.lawful fourth.fetched.3 in
    let due = line_holds false (accepted_line count) (AreTrueOf i s text report count) _ _ c.conclude.result holds c.conclude.ensures in
    went_on _ 0 _ _ _ _ _ _ _ _ _ _ _ _ c.in_ok-input.ensures.fetch (went_on _ 1 _ _ _ _ _ _ _ _ _ _ _ _ c.in_ok-session.ensures.fetch (went_on _ 2 _ _ _ _ _ _ _ _ _ _ _ _ c.in_ok-text.ensures (went_on _ 3 _ _ _ _ _ _ _ _ _ _ _ _ fourth (finished 4 _ _ _ _ _ due))))
