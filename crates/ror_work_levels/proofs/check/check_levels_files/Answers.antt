use Rattle.std.proofs.Common.{List, refl, subst}
use Rattle.std.specs.Prelude.{nat_lt}
use Rattle.std.proofs.lemmas.Result.{err_from_is_err_and}
use Rattle.ror_statement.specs.declared.statement.Numbered.{Numbered}
use Rattle.ror_xmcda.proofs.TableLemmas.{input_table}
use Rattle.ror_confidence.specs.Levels.{level_lists}
use Rattle.ror_frame.specs.Statuses.{accepted_text}
use Rattle.ror_frame.specs.Stops.{counted, last}
use Rattle.ror_frame.proofs.CourseLemmas.{stopped, went_on, finished, line_holds, ran_short}
use Rattle.ror_frame.proofs.FetchLemmas.{stopped_there}
use Rattle.ror_work_levels.specs.Levels.{IsAcceptedSpans}
use Rattle.ror_work_levels.specs.Steps.{ProvesOver, RejectsOver, ReadsOver, RefusesOver}
use Rattle.ror_work_levels.proofs.Judging.{accepted_too, proves_spans, read_as_well, went_on_as, reads_levels, refuses_levels, rejects_spans}
use Rattle.ror_work_levels.proofs.check.check_levels_files.Goals as goal

pub returns-in_err-input : goal.returns-in_err-input
returns-in_err-input g c =
    let p = err_from_is_err_and c.from_residual.result c.from_residual.ensures.1 in
    rw (p.1, p.2) (stopped _ 0 _ _ _ _ _ _ _ _ _ refl c.in_err-input.ensures.fetch)

pub returns-in_err-session : goal.returns-in_err-session
returns-in_err-session g c =
    let p = err_from_is_err_and c.from_residual-in_err-session.result c.from_residual-in_err-session.ensures.1 in
    rw (p.1, p.2) (went_on _ 0 _ _ _ _ _ _ _ _ _ _ _ _ c.in_ok-input.ensures.fetch (stopped _ 1 _ _ _ _ _ _ _ _ _ refl c.in_err-session.ensures.fetch))

pub returns-in_err-bench : goal.returns-in_err-bench
returns-in_err-bench g c =
    let p = err_from_is_err_and c.from_residual-in_err-bench.result c.from_residual-in_err-bench.ensures.1 in
    rw (p.1, p.2) (went_on _ 0 _ _ _ _ _ _ _ _ _ _ _ _ c.in_ok-input.ensures.fetch (went_on _ 1 _ _ _ _ _ _ _ _ _ _ _ _ c.in_ok-session.ensures.fetch (ran_short 2 _ _ _ _)))

pub returns-in_err-put : goal.returns-in_err-put
returns-in_err-put g c =
    let i = c.in_ok-input.input in
    let s = c.in_ok-session.session in
    let standing = c.in_ok-bench.standing.items in
    let stands = c.in_ok-bench.ensures.standing in
    let p = err_from_is_err_and c.from_residual-in_err-put.result c.from_residual-in_err-put.ensures.1 in
    rw (p.1, p.2) (went_on _ 0 _ _ _ _ _ _ _ _ _ _ _ _ c.in_ok-input.ensures.fetch (went_on _ 1 _ _ _ _ _ _ _ _ _ _ _ _ c.in_ok-session.ensures.fetch (stopped _ 2 _ _ _ _ _ _ _ _ _ refl
    (stopped_there _ (counted 3) _ _ _ _ _ _ _ (λ bytes r h. refuses_levels i s standing stands bytes r (subst (λ (xs : List Numbered). RefusesOver xs bytes r) c.as_slice.ensures.value h)) c.in_err-put.ensures.fetch))))

pub returns-in_err-accepted : goal.returns-in_err-accepted
returns-in_err-accepted g c =
    let i = c.in_ok-input.input in
    let s = c.in_ok-session.session in
    let standing = c.in_ok-bench.standing.items in
    let stands = c.in_ok-bench.ensures.standing in
    let put = c.in_ok-put.put in
    let t = c.in_ok-bench.bench.table in
    let p = err_from_is_err_and c.from_residual-in_err-accepted.result c.from_residual-in_err-accepted.ensures.1 in
    rw (p.1, p.2) (went_on _ 0 _ _ _ _ _ _ _ _ _ _ _ _ c.in_ok-input.ensures.fetch (went_on _ 1 _ _ _ _ _ _ _ _ _ _ _ _ c.in_ok-session.ensures.fetch (went_on _ 2 _ _ _ _ _ _ _ _ _ _ _ _
    (read_as_well _ (counted 3) _ _ _ _ _ _ put (λ bytes h. reads_levels i s standing stands bytes put (subst (λ (xs : List Numbered). ReadsOver xs bytes put) c.as_slice.ensures.value h)) c.in_ok-put.ensures.fetch)
    (stopped _ 3 _ _ _ _ _ _ _ _ _ refl
    (stopped_there _ last _ _ _ _ _ _ _ (λ bytes r h. rejects_spans i s put standing stands t c.in_ok-bench.ensures.table bytes r (subst (λ (xs : List Numbered). RejectsOver t (level_lists xs put) bytes r) c.as_slice-2.ensures.value h)) c.in_err-accepted.ensures)))))

pub returns : goal.returns
returns g c =
    let i = c.in_ok-input.input in
    let s = c.in_ok-session.session in
    let standing = c.in_ok-bench.standing.items in
    let stands = c.in_ok-bench.ensures.standing in
    let put = c.in_ok-put.put in
    let t = c.in_ok-bench.bench.table in
    let x = c.in_ok-accepted.accepted in
    let first = c.in_ok-input.ensures.fetch in
    let table = input_table first.fetched.1 c.args.names.now.best_first i first.fetched.3 in
    let fourth = c.in_ok-accepted.ensures in
    let bytes = fourth.fetched.1 in
    let proved = proves_spans i s put standing stands t c.in_ok-bench.ensures.table bytes x (subst (λ (xs : List Numbered). ProvesOver t (level_lists xs put) bytes x) c.as_slice-2.ensures.value fourth.fetched.3) in
    let holds = accepted_too i s put bytes x table c.in_ok-input.ensures.lawful c.in_ok-session.ensures.sound c.in_ok-session.ensures.fit proved in
    let due = line_holds (nat_lt 0 x.wide) (accepted_text x) (IsAcceptedSpans i s put bytes x) _ _ c.conclude.result holds c.conclude.ensures in
    went_on _ 0 _ _ _ _ _ _ _ _ _ _ _ _ first (went_on _ 1 _ _ _ _ _ _ _ _ _ _ _ _ c.in_ok-session.ensures.fetch (went_on _ 2 _ _ _ _ _ _ _ _ _ _ _ _
    (read_as_well _ (counted 3) _ _ _ _ _ _ put (λ bytes h. reads_levels i s standing stands bytes put (subst (λ (xs : List Numbered). ReadsOver xs bytes put) c.as_slice.ensures.value h)) c.in_ok-put.ensures.fetch)
    (went_on_as _ 3 _ _ _ _ _ _ _ _ _ _ _ _ x _ (λ text h. proves_spans i s put standing stands t c.in_ok-bench.ensures.table text x (subst (λ (xs : List Numbered). ProvesOver t (level_lists xs put) text x) c.as_slice-2.ensures.value h)) fourth
    (finished 4 _ _ _ _ _ due))))
