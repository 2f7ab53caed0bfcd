use Rattle.std.proofs.Common.{rules, ◌≡◌, length, refl, sym, subst, ◌∙◌}
use Rattle.std.specs.List.{AllByRecursion}
use Rattle.std.proofs.lemmas.Result.{err_from_is_err_and}
use Rattle.ror_bench.specs.declared.report.Accepted.{Accepted}
use Rattle.ror_bench.specs.Bench.{HoldTheSame, LeavesNumbers}
use Rattle.ror_bench.specs.Reports.{IsAcceptedReport}
use Rattle.ror_frame.specs.Courses.{WritesDue}
use Rattle.ror_frame.specs.Inputs.{bench_for}
use Rattle.ror_frame.specs.States.{sink_state}
use Rattle.ror_frame.proofs.CourseLemmas.{stopped, went_on, finished, ran_short}
use Rattle.ror_frame.proofs.Desks.{numbers_left}
use Rattle.ror_show_words.specs.Named.{page_words_of}
use Rattle.ror_show_run.specs.Courses.{page_output}
use Rattle.ror_show_ground.specs.Grounds.{Ground, ground_in, IsJudged}
use Rattle.ror_show_pages.specs.Pages.{page_of}
use Rattle.ror_show_pages.proofs.ReadLemmas.{held_for, report_holds, kept_judged}
use Rattle.ror_show_run.proofs.Showing.{keeps_same, page_holds, same_ground}
use Rattle.ror_show_run.proofs.show.show_session.Goals as goal

pub returns-in_err-keep : goal.returns-in_err-keep
returns-in_err-keep g c =
    let p = err_from_is_err_and c.from_residual.result c.from_residual.ensures.1 in
    rw (p.1, p.2) (ran_short 2 _ _ _ _)

pub returns-in_err-opening : goal.returns-in_err-opening
returns-in_err-opening g c =
    let p = err_from_is_err_and c.from_residual-in_err-opening.result c.from_residual-in_err-opening.ensures.1 in
    rw (p.1, p.2) (ran_short 2 _ _ _ _)

pub returns-in_err-bench : goal.returns-in_err-bench
returns-in_err-bench g c =
    let p = err_from_is_err_and c.from_residual-in_err-bench.result c.from_residual-in_err-bench.ensures.1 in
    rw (p.1, p.2) (ran_short 2 _ _ _ _)

pub fetch_kept-requires-clause-numbers : goal.fetch_kept-requires-clause-numbers
fetch_kept-requires-clause-numbers g c =
    let i = c.args.input in
    let s = c.args.session.now in
    let held : HoldTheSame c.in_ok-bench.bench (bench_for i s) = search rules in
    subst (AllByRecursion (LeavesNumbers (length s.lines))) (sym held.1) (numbers_left i (length s.desks) (length s.lines) c.requires.lawful c.requires.sound.few_lines)

pub returns-in_err-kept : goal.returns-in_err-kept
returns-in_err-kept g c =
    let i = c.args.input in
    let s = c.args.session.now in
    let held : HoldTheSame c.in_ok-bench.bench (bench_for i s) = search rules in
    let p = err_from_is_err_and c.from_residual-in_err-kept.result c.from_residual-in_err-kept.ensures.1 in
    let chosen = c.as_slice.ensures.value ∙ c.in_ok-keep.ensures in
    let fetched = keeps_same _ _ i s _ _ _ _ _ chosen (c.in_err-kept.ensures.fetch i held) in
    rw (p.1, p.2) (stopped _ 2 _ _ _ _ _ _ _ _ _ refl fetched)

pub write_page-requires : goal.write_page-requires
write_page-requires g c =
    let i = c.args.input in
    let s = c.args.session.now in
    let held : HoldTheSame c.in_ok-bench.bench (bench_for i s) = search rules in
    let kept = c.in_ok-kept.kept in
    let third = c.in_ok-kept.ensures.fetch i held in
    let table : c.table.result.now ≡ i.table = c.table.ensures.value ∙ c.in_ok-kept.ensures.table ∙ held.0 in
    let opening = c.as_slice-2.ensures.value ∙ c.in_ok-opening.ensures in
    let g_here : Ground = record { table = c.table.result.now; session = s; opening = c.as_slice-2.result.now; kept = c.as_slice-3.result.now } in
    let ground : g_here ≡ ground_in i s kept = same_ground g_here i s kept table refl opening c.as_slice-3.ensures in
    subst IsJudged (sym ground) (kept_judged c.as_slice.result.now i s third.fetched.1 kept c.requires.lawful c.requires.sound third.fetched.3)

pub returns : goal.returns
returns g c =
    let i = c.args.input in
    let s = c.args.session.now in
    let held : HoldTheSame c.in_ok-bench.bench (bench_for i s) = held_for c.in_ok-bench.bench i s _ c.in_ok-bench.ensures.begun (search rules) in
    let kept = c.in_ok-kept.kept in
    let begun = c.args.begun.now in
    let file = begun.file.now in
    let words = page_words_of begun.words.now in
    let p = page_of begun.page words.form in
    let chosen = c.as_slice.ensures.value ∙ c.in_ok-keep.ensures in
    let third = keeps_same _ _ i s _ _ _ _ _ chosen (c.in_ok-kept.ensures.fetch i held) in
    let bytes = third.fetched.1 in
    let table : c.table.result.now ≡ i.table = c.table.ensures.value ∙ c.in_ok-kept.ensures.table ∙ held.0 in
    let opening = c.as_slice-2.ensures.value ∙ c.in_ok-opening.ensures in
    let g_here : Ground = record { table = c.table.result.now; session = s; opening = c.as_slice-2.result.now; kept = c.as_slice-3.result.now } in
    let ground : g_here ≡ ground_in i s kept = same_ground g_here i s kept table refl opening c.as_slice-3.ensures in
    let before = sink_state (g.O.Sink.written c.args.out.now) (g.O.Sink.faults c.args.out.now) in
    let now = sink_state (g.O.Sink.written c.write_page.new.out) (g.O.Sink.faults c.write_page.new.out) in
    let written = subst (λ (h : Ground). WritesDue (page_output p words file h (Unit {0})) before now c.write_page.result) ground c.write_page.ensures in
    let holds = report_holds _ i s bytes kept c.requires.lawful third.fetched.3 in
    let due = page_holds p words file (ground_in i s kept) ((accepted : Accepted) × IsAcceptedReport (bench_for i s) s.lines bytes accepted) _ _ c.write_page.result holds written in
    went_on _ 2 _ _ _ _ _ _ _ _ _ _ _ _ third (finished 3 _ _ _ _ _ due)
