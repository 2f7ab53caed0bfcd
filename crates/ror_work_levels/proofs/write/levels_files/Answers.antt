use Rattle.std.proofs.Common.{List, refl, subst}
use Rattle.std.proofs.lemmas.Result.{err_from_is_err_and}
use Rattle.ror_pivot.specs.Answers.{most_of}
use Rattle.ror_statement.specs.declared.statement.Numbered.{Numbered}
use Rattle.ror_xmcda.proofs.TableLemmas.{input_table}
use Rattle.ror_confidence.specs.Levels.{level_lists}
use Rattle.ror_frame.specs.States.{sink_state}
use Rattle.ror_frame.specs.Stops.{counted}
use Rattle.ror_frame.proofs.CourseLemmas.{stopped, went_on, finished, ran_short}
use Rattle.ror_frame.proofs.FetchLemmas.{stopped_there}
use Rattle.ror_work_levels.specs.Steps.{ReadsOver, RefusesOver, WritesOver}
use Rattle.ror_work_levels.proofs.LevelCourses.{kind_of}
use Rattle.ror_work_levels.proofs.Judging.{read_as_well, reads_levels, refuses_levels}
use Rattle.ror_work_levels.proofs.Writing.{written_over}
use Rattle.ror_work_levels.proofs.write.levels_files.Goals as goal

pub returns-in_err-input : goal.returns-in_err-input
returns-in_err-input g c =
    let p = err_from_is_err_and c.from_residual.result c.from_residual.ensures.1 in
    rw (p.1, p.2) (stopped _ 0 _ _ _ _ _ _ _ _ _ refl c.in_err-input.ensures.fetch)

pub returns-in_err-session : goal.returns-in_err-session
returns-in_err-session g c =
    let p = err_from_is_err_and c.from_residual-in_err-session.result c.from_residual-in_err-session.ensures.1 in
    rw (p.1, p.2) (went_on _ 0 _ _ _ _ _ _ _ _ _ _ _ _ c.in_ok-input.ensures.fetch (stopped _ 1 _ _ _ _ _ _ _ _ _ refl c.in_err-session.ensures.fetch))

pub returns-in_err-bench : goal.returns-in_err-bench
returns-in_err-bench g c =
    let p = err_from_is_err_and c.from_residual-in_err-bench.result c.from_residual-in_err-bench.ensures.1 in
    rw (p.1, p.2) (went_on _ 0 _ _ _ _ _ _ _ _ _ _ _ _ c.in_ok-input.ensures.fetch (went_on _ 1 _ _ _ _ _ _ _ _ _ _ _ _ c.in_ok-session.ensures.fetch (ran_short 2 _ _ _ _)))

pub returns-in_err-put : goal.returns-in_err-put
returns-in_err-put g c =
    let i = c.in_ok-input.input in
    let s = c.in_ok-session.session in
    let standing = c.in_ok-bench.standing.items in
    let stands = c.in_ok-bench.ensures.standing in
    let p = err_from_is_err_and c.from_residual-in_err-put.result c.from_residual-in_err-put.ensures.1 in
    rw (p.1, p.2) (went_on _ 0 _ _ _ _ _ _ _ _ _ _ _ _ c.in_ok-input.ensures.fetch (went_on _ 1 _ _ _ _ _ _ _ _ _ _ _ _ c.in_ok-session.ensures.fetch (stopped _ 2 _ _ _ _ _ _ _ _ _ refl
    (stopped_there _ (counted 3) _ _ _ _ _ _ _ (λ bytes r h. refuses_levels i s standing stands bytes r (subst (λ (xs : List Numbered). RefusesOver xs bytes r) c.as_slice.ensures.value h)) c.in_err-put.ensures.fetch))))

pub returns : goal.returns
returns g c =
    let i = c.in_ok-input.input in
    let s = c.in_ok-session.session in
    let standing = c.in_ok-bench.standing.items in
    let stands = c.in_ok-bench.ensures.standing in
    let put = c.in_ok-put.put in
    let most = most_of c.args.bits in
    let t = c.in_ok-bench.bench.table in
    let first = c.in_ok-input.ensures.fetch in
    let table = input_table first.fetched.1 c.args.names.now.best_first i first.fetched.3 in
    let kind = kind_of i s c.in_ok-input.ensures.lawful c.in_ok-session.ensures.sound c.in_ok-session.ensures.fit table put standing stands in
    let old = sink_state (g.O.Sink.written c.args.out.now) (g.O.Sink.faults c.args.out.now) in
    let new = sink_state (g.O.Sink.written c.write_spans.new.out) (g.O.Sink.faults c.write_spans.new.out) in
    let over = subst (λ (xs : List Numbered). WritesOver most t (level_lists xs put) old new c.write_spans.result) c.as_slice-2.ensures.value c.write_spans.ensures in
    let due = written_over most i s put standing t c.in_ok-bench.ensures.table stands kind old new c.write_spans.result over in
    went_on _ 0 _ _ _ _ _ _ _ _ _ _ _ _ first (went_on _ 1 _ _ _ _ _ _ _ _ _ _ _ _ c.in_ok-session.ensures.fetch (went_on _ 2 _ _ _ _ _ _ _ _ _ _ _ _
    (read_as_well _ (counted 3) _ _ _ _ _ _ put (λ bytes h. reads_levels i s standing stands bytes put (subst (λ (xs : List Numbered). ReadsOver xs bytes put) c.as_slice.ensures.value h)) c.in_ok-put.ensures.fetch)
    (finished 3 _ _ _ _ _ due)))
