use Rattle.std.proofs.Common.{rules, arith, ◌≡◌, ◌+◌, ◌≤◌, ◌<◌, ◌∙◌, ℕ, List, [], ◌∷◌, ◌++◌, length, drop, refl, sym, ap, subst}
use Rattle.std.proofs.lemmas.Result.{err_from_is_err_and}
use Rattle.ror_report.specs.Text.{end_text}
use Rattle.ror_bench.specs.Reports.{IfRejected}
use Rattle.ror_entries.specs.Reports.{RejectsNext, RejectsEnd}
use Rattle.ror_entries.specs.Steps.{IsEntryAt}
use Rattle.ror_entries.proofs.SameLemmas.{same_itself, same_through, kind_same, entry_same}
use Rattle.ror_entries.proofs.KeepLemmas.{IsKeptWay, kept_begins, kept_goes_on, kept_ends, kept_breaks, kept_breaks_at_end}
use Rattle.ror_entries.proofs.keep.keep_entries.Goals as goal

pub loop-place-init : goal.loop-place-init
loop-place-init g c = record {
  within = c.requires.within;
  few = omega arith;
  due = omega arith;
  same = same_itself (g.J.Judge.kind c.args.judge.now);
  report = refl;
  way = subst (IsKeptWay (g.J.Judge.kind c.args.judge.now) (g.J.Judge.report c.args.judge.now) c.args.start 0 c.args.start) (sym c.new-kept.ensures.items) (kept_begins (g.J.Judge.kind c.args.judge.now) (g.J.Judge.report c.args.judge.now) c.args.start);
}

pub loop-place-preserved : goal.loop-place-preserved
loop-place-preserved g c =
    let kind = g.J.Judge.kind c.args.judge.now in
    let here = g.J.Judge.kind c.loop-place.judge in
    let bytes = g.J.Judge.report c.args.judge.now in
    let place = c.loop-place.place in
    let from = c.loop-place.next in
    let x = c.in_ok-entry.entry in
    let passed = c.in_ok-entry.field-0-1 in
    let after = c.in_ok-entry.after in
    let due : place < kind.count = omega (arith, c.loop-place-test.true, c.count-count.ensures.count) in
    let at = subst (λ (l : List ℕ). IsEntryAt here l place from x passed after) c.loop-place.invariant.report c.in_ok-entry.ensures.next in
    let pushed : c.push.new.self.items ≡ c.loop-place.kept.items ++ c.in_ok-entry.entry ∷ [] = search rules in
    let way = kept_goes_on kind c.count-count.ensures.lawful bytes c.args.start place from c.loop-place.kept.items x passed after due c.loop-place.invariant.way (entry_same here kind c.loop-place.invariant.same bytes place from x passed after at) in
    record {
      within = subst (λ (l : List ℕ). after ≤ length l) c.loop-place.invariant.report c.in_ok-entry.ensures.within;
      few = omega (arith, c.in_ok-entry.ensures.onward);
      due = omega (arith, c.loop-place-test.true);
      same = same_through (g.J.Judge.kind c.next_entry.new.judge) here kind c.next_entry.ensures.same c.loop-place.invariant.same;
      report = c.next_entry.ensures.report ∙ c.loop-place.invariant.report;
      way = subst (IsKeptWay kind bytes c.args.start (place + 1) after) (sym pushed) way;
    }

pub next_entry-requires-clause-lawful : goal.next_entry-requires-clause-lawful
next_entry-requires-clause-lawful g c = kind_same (g.J.Judge.kind c.loop-place.judge) (g.J.Judge.kind c.args.judge.now) c.loop-place.invariant.same c.count-count.ensures.lawful

pub returns-in_err-entry-clause-rejected : goal.returns-in_err-entry-clause-rejected
returns-in_err-entry-clause-rejected g c =
    let kind = g.J.Judge.kind c.args.judge.now in
    let here = g.J.Judge.kind c.loop-place.judge in
    let bytes = g.J.Judge.report c.args.judge.now in
    let place = c.loop-place.place in
    let e = c.in_err-entry.field-0.0 in
    let due : place < kind.count = omega (arith, c.loop-place-test.true, c.count-count.ensures.count) in
    let rejected = subst (λ (l : List ℕ). IfRejected (λ rejection. (rejection.block ≡ place + 1) × RejectsNext here l place c.loop-place.next rejection.reason) e) c.loop-place.invariant.report c.in_err-entry.ensures.rejected in
    let p = err_from_is_err_and c.from_residual.result c.from_residual.ensures.1 in
    rw (p.1, p.2) (kept_breaks here kind c.loop-place.invariant.same bytes c.args.start place c.loop-place.next c.loop-place.kept.items c.loop-place.invariant.way e due rejected)

pub returns-in_err-check_end-clause-rejected : goal.returns-in_err-check_end-clause-rejected
returns-in_err-check_end-clause-rejected g c =
    let kind = g.J.Judge.kind c.args.judge.now in
    let here = g.J.Judge.kind c.loop-place.judge in
    let bytes = g.J.Judge.report c.args.judge.now in
    let place = c.loop-place.place in
    let e = c.in_err-check_end.field-0.0 in
    let over : place ≡ c.count-count.result = omega arith in
    let rejected = subst (λ (l : List ℕ). IfRejected (λ rejection. (rejection.block ≡ place + 1) × RejectsEnd here l c.loop-place.next rejection.reason) e) c.loop-place.invariant.report (rw over c.in_err-check_end.ensures.rejected) in
    let p = err_from_is_err_and c.from_residual-in_err-check_end.result c.from_residual-in_err-check_end.ensures.1 in
    rw (p.1, p.2) (kept_breaks_at_end here kind c.loop-place.invariant.same bytes c.args.start place c.loop-place.next c.loop-place.kept.items c.loop-place.invariant.way e (over ∙ c.count-count.ensures.count) rejected)

pub returns-clause-kept : goal.returns-clause-kept
returns-clause-kept g c =
    let kind = g.J.Judge.kind c.args.judge.now in
    let bytes = g.J.Judge.report c.args.judge.now in
    let over : c.loop-place.place ≡ c.count-count.result = omega arith in
    let last = subst (λ (l : List ℕ). drop c.loop-place.next l ≡ end_text c.count-count.result) c.loop-place.invariant.report c.in_ok-check_end.ensures.last in
    kept_ends kind c.count-count.ensures.lawful bytes c.args.start c.loop-place.place c.loop-place.next c.loop-place.kept.items (over ∙ c.count-count.ensures.count) c.loop-place.invariant.way (last ∙ ap end_text c.count-count.ensures.count)
