use Rattle.std.proofs.Common.{◌≡◌, ◌≤◌, ℕ, List, length, false, inl, refl, sym, ap, subst, ◌∙◌, arith}
use Rattle.std.specs.List.{AllByRecursion}
use Rattle.std.proofs.lemmas.Result.{err_from_is_err_and}
use Rattle.ror_value.specs.Over.{IsLawfulIn}
use Rattle.ror_bench.specs.declared.report.Accepted.{Accepted}
use Rattle.ror_closing.specs.Closing.{AreClosingLists}
use Rattle.ror_frame.specs.Courses.{WritesDue}
use Rattle.ror_frame.specs.Inputs.{bench_for, line_output}
use Rattle.ror_frame.specs.States.{sink_state}
use Rattle.ror_frame.proofs.CourseLemmas.{stopped, went_on, finished, ran_short}
use Rattle.ror_work_group.specs.Group.{IsAcceptedGroup}
use Rattle.ror_show_words.specs.Named.{page_words_of}
use Rattle.ror_show_find_group.specs.Grounds.{GroupGround}
use Rattle.ror_show_run.specs.Groups.{judges_over, PageOf, IsGroupShown}
use Rattle.ror_show_run.proofs.Groups.{kept_judged, same_judges, report_holds, group_due}
use Rattle.ror_show_run.proofs.group.show_entries.Goals as goal

pub returns-in_err-bench : goal.returns-in_err-bench
returns-in_err-bench g c =
    let p = err_from_is_err_and c.from_residual.result c.from_residual.ensures.1 in
    rw (p.1, p.2) (ran_short 2 _ _ _ _)

pub returns-in_err-entries : goal.returns-in_err-entries
returns-in_err-entries g c =
    let i = c.args.input in
    let s = c.args.session.now in
    let table = sym (c.table.ensures.value ∙ c.in_ok-bench.ensures.table) in
    let closing = subst (AreClosingLists (bench_for i s) s.lines) (sym c.as_slice-lists.ensures.value) c.in_ok-bench.ensures.closing in
    let p = err_from_is_err_and c.from_residual-in_err-entries.result c.from_residual-in_err-entries.ensures.1 in
    rw (p.1, p.2) (stopped _ 2 _ _ _ _ _ _ _ _ _ refl (c.in_err-entries.ensures i table closing))

pub returns-in_err-text : goal.returns-in_err-text
returns-in_err-text g c =
    let i = c.args.input in
    let s = c.args.session.now in
    let table = sym (c.table.ensures.value ∙ c.in_ok-bench.ensures.table) in
    let closing = subst (AreClosingLists (bench_for i s) s.lines) (sym c.as_slice-lists.ensures.value) c.in_ok-bench.ensures.closing in
    let p = err_from_is_err_and c.from_residual-in_err-text.result c.from_residual-in_err-text.ensures.1 in
    rw (p.1, p.2) (went_on _ 2 _ _ _ _ _ _ _ _ _ _ _ _ (c.in_ok-entries.ensures i table closing) (finished 3 _ _ _ _ _ (inl refl)))

pub returns : goal.returns
returns g c =
    let i = c.args.input in
    let s = c.args.session.now in
    let words = page_words_of c.args.begun.now.words.now in
    let file = c.args.begun.now.file.now in
    let lists = c.as_slice-lists.result.now in
    let entries = c.in_ok-entries.entries in
    let of_bench : c.table.result.now ≡ i.table = c.table.ensures.value ∙ c.in_ok-bench.ensures.table in
    let of_bench_too : c.table-2.result.now ≡ i.table = c.table-2.ensures.value ∙ c.in_ok-bench.ensures.table in
    let closing = subst (AreClosingLists (bench_for i s) s.lines) (sym c.as_slice-lists.ensures.value) c.in_ok-bench.ensures.closing in
    let third = c.in_ok-entries.ensures i (sym of_bench) closing in
    let bytes = third.fetched.1 in
    let kept = third.fetched.3 in
    let few : length lists ≤ 64 = (let count = c.in_ok-bench.ensures.count in let same = ap length c.as_slice-lists.ensures.value in let desks = c.requires.sound.few_desks in omega arith) in
    let lawful = subst (AllByRecursion (IsLawfulIn i.table)) (sym c.as_slice-lists.ensures.value) c.in_ok-bench.ensures.lawful in
    let judged = kept_judged i s bytes lists entries c.requires.table c.requires.lawful c.requires.suited few lawful closing kept in
    let here : GroupGround = record { table = c.table-2.result.now; desks = c.as_slice.result.now; lists = lists; entries = c.as_slice-2.result.now } in
    let judges : here ≡ judges_over i s lists entries = same_judges here i s lists entries of_bench_too c.as_slice.ensures refl c.as_slice-2.ensures in
    let text = c.in_ok-text.text.items in
    let page = subst (λ (h : GroupGround). PageOf words file h text) judges c.in_ok-text.ensures in
    let shown : IsGroupShown words file i s entries text = record { lists = lists; closing = closing; judged = judged; page = page } in
    let written = subst (λ (t : List ℕ). WritesDue (line_output false t (Unit {0})) (sink_state (g.O.Sink.written c.args.out.now) (g.O.Sink.faults c.args.out.now)) (sink_state (g.O.Sink.written c.write_text.new.out) (g.O.Sink.faults c.write_text.new.out)) c.write_text.result) c.as_slice-3.ensures.value c.write_text.ensures in
    let holds = report_holds i s bytes entries c.requires.table c.requires.lawful kept in
    let due = group_due words file i s entries ((accepted : Accepted) × IsAcceptedGroup i s bytes accepted) text _ _ c.write_text.result shown holds written in
    went_on _ 2 _ _ _ _ _ _ _ _ _ _ _ _ third (finished 3 _ _ _ _ _ due)
