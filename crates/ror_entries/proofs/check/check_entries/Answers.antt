use Rattle.std.proofs.Common.{rules, arith, ◌≡◌, ◌+◌, ◌≤◌, ◌<◌, ◌∙◌, ℕ, List, length, drop, refl, ap, subst}
use Rattle.std.proofs.lemmas.Result.{err_from_is_err_and}
use Rattle.ror_report.specs.Text.{end_text}
use Rattle.ror_bench.specs.Reports.{IfRejected}
use Rattle.ror_entries.specs.Reports.{RejectsNext, RejectsEnd}
use Rattle.ror_entries.specs.Steps.{IsNextEntry}
use Rattle.ror_entries.proofs.SameLemmas.{same_itself, same_through, next_same, kind_same}
use Rattle.ror_entries.proofs.CheckLemmas.{way_begins, way_goes_on, way_ends, next_breaks, end_breaks, none_proved}
use Rattle.ror_entries.proofs.check.check_entries.Goals as goal

pub loop-place-init : goal.loop-place-init
loop-place-init g c = record {
  within = c.requires.within;
  few = omega arith;
  due = omega arith;
  fits = omega arith;
  wide_fits = omega arith;
  same = same_itself (g.J.Judge.kind c.args.judge.now);
  report = refl;
  way = way_begins (g.J.Judge.kind c.args.judge.now) c.count-count.ensures.lawful (g.J.Judge.report c.args.judge.now) c.args.start;
}

pub loop-place-preserved : goal.loop-place-preserved
loop-place-preserved g c =
    let kind = g.J.Judge.kind c.args.judge.now in
    let here = g.J.Judge.kind c.loop-place.judge in
    let bytes = g.J.Judge.report c.args.judge.now in
    let place = c.loop-place.place in
    let from = c.loop-place.next in
    let passed = c.in_ok-passed.passed in
    let after = c.in_ok-passed.after in
    let due : place < kind.count = omega (arith, c.loop-place-test.true, c.count-count.ensures.count) in
    let next = subst (λ (l : List ℕ). IsNextEntry here l place from passed after) c.loop-place.invariant.report c.in_ok-passed.ensures.next in
    record {
      within = subst (λ (l : List ℕ). after ≤ length l) c.loop-place.invariant.report c.in_ok-passed.ensures.within;
      few = omega (arith, c.in_ok-passed.ensures.onward);
      due = omega (arith, c.loop-place-test.true);
      fits = first_of (search rules, omega arith);
      wide_fits = first_of (search rules, omega arith);
      same = same_through (g.J.Judge.kind c.check_next.new.judge) here kind c.check_next.ensures.same c.loop-place.invariant.same;
      report = c.check_next.ensures.report ∙ c.loop-place.invariant.report;
      way = way_goes_on kind c.count-count.ensures.lawful bytes c.args.start place from c.loop-place.accepted passed after due c.loop-place.invariant.way (next_same here kind c.loop-place.invariant.same bytes place from passed after next);
    }

pub returns-in_err-passed-clause-rejected : goal.returns-in_err-passed-clause-rejected
returns-in_err-passed-clause-rejected g c =
    let kind = g.J.Judge.kind c.args.judge.now in
    let here = g.J.Judge.kind c.loop-place.judge in
    let bytes = g.J.Judge.report c.args.judge.now in
    let place = c.loop-place.place in
    let e = c.in_err-passed.field-0.0 in
    let due : place < kind.count = omega (arith, c.loop-place-test.true, c.count-count.ensures.count) in
    let rejected = subst (λ (l : List ℕ). IfRejected (λ rejection. (rejection.block ≡ place + 1) × RejectsNext here l place c.loop-place.next rejection.reason) e) c.loop-place.invariant.report c.in_err-passed.ensures.rejected in
    let p = err_from_is_err_and c.from_residual.result c.from_residual.ensures.1 in
    rw (p.1, p.2) (next_breaks here kind c.loop-place.invariant.same bytes c.args.start place c.loop-place.next c.loop-place.accepted e due c.loop-place.invariant.way rejected)

pub returns-in_err-passed-clause-not_proved : goal.returns-in_err-passed-clause-not_proved
returns-in_err-passed-clause-not_proved g c =
    let kind = g.J.Judge.kind c.args.judge.now in
    let here = g.J.Judge.kind c.loop-place.judge in
    let bytes = g.J.Judge.report c.args.judge.now in
    let place = c.loop-place.place in
    let e = c.in_err-passed.field-0.0 in
    let due : place < kind.count = omega (arith, c.loop-place-test.true, c.count-count.ensures.count) in
    let rejected = subst (λ (l : List ℕ). IfRejected (λ rejection. (rejection.block ≡ place + 1) × RejectsNext here l place c.loop-place.next rejection.reason) e) c.loop-place.invariant.report c.in_err-passed.ensures.rejected in
    let p = err_from_is_err_and c.from_residual.result c.from_residual.ensures.1 in
    rw (p.1, p.2) (none_proved kind c.count-count.ensures.lawful bytes c.args.start e (next_breaks here kind c.loop-place.invariant.same bytes c.args.start place c.loop-place.next c.loop-place.accepted e due c.loop-place.invariant.way rejected))

pub returns-in_err-check_end-clause-rejected : goal.returns-in_err-check_end-clause-rejected
returns-in_err-check_end-clause-rejected g c =
    let kind = g.J.Judge.kind c.args.judge.now in
    let here = g.J.Judge.kind c.loop-place.judge in
    let bytes = g.J.Judge.report c.args.judge.now in
    let place = c.loop-place.place in
    let e = c.in_err-check_end.field-0.0 in
    let over : place ≡ c.count-count.result = omega arith in
    let rejected = subst (λ (l : List ℕ). IfRejected (λ rejection. (rejection.block ≡ place + 1) × RejectsEnd here l c.loop-place.next rejection.reason) e) c.loop-place.invariant.report (rw over c.in_err-check_end.ensures.rejected) in
    let p = err_from_is_err_and c.from_residual-in_err-check_end.result c.from_residual-in_err-check_end.ensures.1 in
    rw (p.1, p.2) (end_breaks here kind c.loop-place.invariant.same bytes c.args.start place c.loop-place.next c.loop-place.accepted e (over ∙ c.count-count.ensures.count) c.loop-place.invariant.way rejected)

pub returns-in_err-check_end-clause-not_proved : goal.returns-in_err-check_end-clause-not_proved
returns-in_err-check_end-clause-not_proved g c =
    let kind = g.J.Judge.kind c.args.judge.now in
    let here = g.J.Judge.kind c.loop-place.judge in
    let bytes = g.J.Judge.report c.args.judge.now in
    let place = c.loop-place.place in
    let e = c.in_err-check_end.field-0.0 in
    let over : place ≡ c.count-count.result = omega arith in
    let rejected = subst (λ (l : List ℕ). IfRejected (λ rejection. (rejection.block ≡ place + 1) × RejectsEnd here l c.loop-place.next rejection.reason) e) c.loop-place.invariant.report (rw over c.in_err-check_end.ensures.rejected) in
    let p = err_from_is_err_and c.from_residual-in_err-check_end.result c.from_residual-in_err-check_end.ensures.1 in
    rw (p.1, p.2) (none_proved kind c.count-count.ensures.lawful bytes c.args.start e (end_breaks here kind c.loop-place.invariant.same bytes c.args.start place c.loop-place.next c.loop-place.accepted e (over ∙ c.count-count.ensures.count) c.loop-place.invariant.way rejected))

pub returns-clause-accepted : goal.returns-clause-accepted
returns-clause-accepted g c =
    let kind = g.J.Judge.kind c.args.judge.now in
    let bytes = g.J.Judge.report c.args.judge.now in
    let over : c.loop-place.place ≡ c.count-count.result = omega arith in
    let last = subst (λ (l : List ℕ). drop c.loop-place.next l ≡ end_text c.count-count.result) c.loop-place.invariant.report c.in_ok-check_end.ensures.last in
    way_ends kind c.count-count.ensures.lawful bytes c.args.start c.loop-place.place c.loop-place.next c.loop-place.accepted (over ∙ c.count-count.ensures.count) c.loop-place.invariant.way (last ∙ ap end_text c.count-count.ensures.count)

pub check_next-requires-clause-lawful : goal.check_next-requires-clause-lawful
check_next-requires-clause-lawful g c = kind_same (g.J.Judge.kind c.loop-place.judge) (g.J.Judge.kind c.args.judge.now) c.loop-place.invariant.same c.count-count.ensures.lawful
