use Rattle.std.proofs.Common.{arith, ◌≡◌, ◌<◌, ◌||◌, List, ℕ, Err, sym, ap, subst, ◌∙◌}
use Rattle.std.specs.Prelude.{nat_lt}
use Rattle.std.proofs.lemmas.Result.{err_from_is_err_and}
use Rattle.ror_bench.specs.declared.bench.Passed.{Passed}
use Rattle.ror_entries.specs.Writing.{WritesText}
use Rattle.ror_entries.proofs.SameLemmas.{writes_through}
use Rattle.ror_entries.proofs.WriteLemmas.{one_written, entry_stopped}
use Rattle.ror_entries.proofs.write.write_each.Goals.{then-wide, else-wide}
use Rattle.ror_entries.proofs.write.write_each.Goals as goal

pub returns-in_err-written : goal.returns-in_err-written
returns-in_err-written g c =
    let first = g.M.Maker.kind c.args.maker.now in
    let entry = c.in_ok-entry.entry in
    let kept = c.loop-place.invariant in
    let same = writes_through (g.M.Maker.kind c.make.new.self) (g.M.Maker.kind c.loop-place.maker) first c.make.ensures.same kept.same in
    let text = ap (λ (f : g.row.M-Entry.Denot → List ℕ). f entry) same.text in
    let due : c.loop-place.place < first.count = omega (arith, c.loop-place-test.true, c.requires) in
    let p = err_from_is_err_and c.from_residual-in_err-written.result c.from_residual-in_err-written.ensures.1 in
    let stopped = subst (λ (t : List ℕ). WritesText {A = Unit {0}} t (g.O.Sink.faults c.loop-place.out) (g.O.Sink.faults c.write_entry-written.new.out) (g.O.Sink.written c.loop-place.out) (g.O.Sink.written c.write_entry-written.new.out) (Err c.in_err-written.field-0.0)) text c.in_err-written.ensures in
    rw (p.1, p.2) (entry_stopped first (g.M.Maker.given c.args.maker.now) c.loop-place.place _ _ _ _ _ _ _ entry c.in_err-written.field-0.0 due kept.were ((kept.same.printable entry).0 c.in_ok-entry.ensures.printable) (kept.gives c.loop-place.place entry c.in_ok-entry.ensures.given) stopped)

pub loop-place-preserved : goal.loop-place-preserved
loop-place-preserved g c =
    let first = g.M.Maker.kind c.args.maker.now in
    let entry = c.in_ok-entry.entry in
    let kept = c.loop-place.invariant in
    let same = writes_through (g.M.Maker.kind c.make.new.self) (g.M.Maker.kind c.loop-place.maker) first c.make.ensures.same kept.same in
    let text = ap (λ (f : g.row.M-Entry.Denot → List ℕ). f entry) same.text in
    let here : c.is_wide-here.result ≡ nat_lt 0 (first.passed entry).wide = c.is_wide-here.ensures ∙ ap (λ (f : g.row.M-Entry.Denot → Passed). nat_lt 0 (f entry).wide) same.passed in
    let wide : c.if-wide.wide ≡ (c.loop-place.wide || nat_lt 0 (first.passed entry).wide) = elim c.if-wide.branch [
      | then-wide w ↦ w.wide-is ∙ w.if-wide.true ∙ sym (ap (λ b. b || nat_lt 0 (first.passed entry).wide) w.if-wide.true)
      | else-wide w ↦ w.wide-is ∙ here ∙ sym (ap (λ b. b || nat_lt 0 (first.passed entry).wide) w.if-wide.false)
    ] in
    let done = c.in_ok-written.ensures in
    record {
      due = omega (arith, c.loop-place-test.true);
      same = same;
      gives = λ place x given. kept.gives place x (c.make.ensures.gives place x given);
      were = rw wide (one_written first (g.M.Maker.given c.args.maker.now) c.loop-place.place _ _ _ _ _ _ _ entry kept.were ((kept.same.printable entry).0 c.in_ok-entry.ensures.printable) (kept.gives c.loop-place.place entry c.in_ok-entry.ensures.given) done.0 (rw (sym text) done.1));
    }
