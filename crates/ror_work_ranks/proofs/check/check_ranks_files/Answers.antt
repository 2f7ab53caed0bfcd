use Rattle.std.proofs.Common.{Ok, refl}
use Rattle.std.specs.Prelude.{nat_lt}
use Rattle.std.proofs.lemmas.Result.{err_from_is_err_and}
use Rattle.ror_xmcda.proofs.TableLemmas.{input_table}
use Rattle.ror_frame.specs.Statuses.{accepted_text}
use Rattle.ror_frame.specs.Stops.{last}
use Rattle.ror_frame.proofs.CourseLemmas.{stopped, went_on, finished, line_holds}
use Rattle.ror_frame.proofs.FetchLemmas.{stopped_there, short_report, judged_report}
use Rattle.ror_work_ranks.specs.Ranking.{IsAcceptedRanks, ProvesRanks, RefusesRanks}
use Rattle.ror_work_ranks.proofs.Judging.{accepted_too, long_report}
use Rattle.ror_work_ranks.proofs.check.check_ranks_files.Goals as goal

pub returns-in_err-input : goal.returns-in_err-input
returns-in_err-input g c =
    let p = err_from_is_err_and c.from_residual.result c.from_residual.ensures.1 in
    rw (p.1, p.2) (stopped _ 0 _ _ _ _ _ _ _ _ _ refl c.in_err-input.ensures.fetch)

pub returns-in_err-session : goal.returns-in_err-session
returns-in_err-session g c =
    let p = err_from_is_err_and c.from_residual-in_err-session.result c.from_residual-in_err-session.ensures.1 in
    rw (p.1, p.2) (went_on _ 0 _ _ _ _ _ _ _ _ _ _ _ _ c.in_ok-input.ensures.fetch (stopped _ 1 _ _ _ _ _ _ _ _ _ refl c.in_err-session.ensures.fetch))

pub returns-in_err-bytes : goal.returns-in_err-bytes
returns-in_err-bytes g c =
    let i = c.in_ok-input.input in
    let s = c.in_ok-session.session in
    let p = err_from_is_err_and c.from_residual-in_err-bytes.result c.from_residual-in_err-bytes.ensures.1 in
    rw (p.1, p.2) (went_on _ 0 _ _ _ _ _ _ _ _ _ _ _ _ c.in_ok-input.ensures.fetch (went_on _ 1 _ _ _ _ _ _ _ _ _ _ _ _ c.in_ok-session.ensures.fetch (stopped _ 2 _ _ _ _ _ _ _ _ _ refl
    (stopped_there _ last _ _ (ProvesRanks i s) (RefusesRanks i s) _ _ _ (long_report i s) c.in_err-bytes.ensures))))

pub entries_in-requires-clause-within : goal.entries_in-requires-clause-within
entries_in-requires-clause-within g c = short_report _ c.as_slice.result.now _ _ _ c.in_ok-bytes.bytes c.as_slice.ensures.value c.in_ok-bytes.ensures

pub returns-in_err-accepted : goal.returns-in_err-accepted
returns-in_err-accepted g c =
    let i = c.in_ok-input.input in
    let s = c.in_ok-session.session in
    let p = err_from_is_err_and c.from_residual-in_err-accepted.result c.from_residual-in_err-accepted.ensures.1 in
    rw (p.1, p.2) (went_on _ 0 _ _ _ _ _ _ _ _ _ _ _ _ c.in_ok-input.ensures.fetch (went_on _ 1 _ _ _ _ _ _ _ _ _ _ _ _ c.in_ok-session.ensures.fetch (stopped _ 2 _ _ _ _ _ _ _ _ _ refl
    (judged_report _ _ _ (ProvesRanks i s) (RefusesRanks i s) _ _ c.in_ok-bytes.bytes _ c.as_slice.ensures.value c.in_ok-bytes.ensures c.in_err-accepted.ensures))))

pub returns : goal.returns
returns g c =
    let i = c.in_ok-input.input in
    let s = c.in_ok-session.session in
    let x = c.in_ok-accepted.accepted in
    let first = c.in_ok-input.ensures.fetch in
    let table = input_table first.fetched.1 c.args.names.now.best_first i first.fetched.3 in
    let third = judged_report _ _ _ (ProvesRanks i s) (RefusesRanks i s) _ _ c.in_ok-bytes.bytes (Ok x) c.as_slice.ensures.value c.in_ok-bytes.ensures c.in_ok-accepted.ensures in
    let bytes = third.fetched.1 in
    let holds = accepted_too i s bytes x table c.in_ok-input.ensures.lawful c.in_ok-session.ensures.sound third.fetched.3 in
    let due = line_holds (nat_lt 0 x.wide) (accepted_text x) (IsAcceptedRanks i s bytes x) _ _ c.conclude.result holds c.conclude.ensures in
    went_on _ 0 _ _ _ _ _ _ _ _ _ _ _ _ first (went_on _ 1 _ _ _ _ _ _ _ _ _ _ _ _ c.in_ok-session.ensures.fetch (went_on _ 2 _ _ _ _ _ _ _ _ _ _ _ _ third (finished 3 _ _ _ _ _ due)))
