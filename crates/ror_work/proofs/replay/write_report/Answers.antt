use Rattle.std.proofs.Common.{arith, ℕ, List, inl, refl, sym, ap, subst, length}
use Rattle.std.specs.List.{AllByRecursion}
use Rattle.std.proofs.lemmas.Result.{err_from_is_err_and}
use Rattle.ror_session.specs.declared.session.Line.{Line}
use Rattle.ror_bench.specs.Bench.{LeavesNumbers}
use Rattle.ror_bench.specs.Reports.{NamesADesk}
use Rattle.ror_bench.proofs.SameLemmas.{same_back, same_through, lawful_same}
use Rattle.ror_frame.specs.Inputs.{bench_for}
use Rattle.ror_pivot.specs.Answers.{most_of}
use Rattle.ror_work.proofs.Making.{report_same}
use Rattle.ror_work.proofs.replay.write_report.Goals as goal

pub returns-in_err-bench : goal.returns-in_err-bench
returns-in_err-bench g c =
    let p = err_from_is_err_and c.from_residual.result c.from_residual.ensures.1 in
    rw (p.1, p.2) (inl refl)

pub make_room-requires : goal.make_room-requires
make_room-requires g c =
    let long = c.in_ok-bench.ensures.count in
    let desks = c.len-desks.ensures in
    omega (arith, long, desks)

pub returns-in_err-make_room : goal.returns-in_err-make_room
returns-in_err-make_room g c =
    let p = err_from_is_err_and c.from_residual-in_err-make_room.result c.from_residual-in_err-make_room.ensures.1 in
    rw (p.1, p.2) (inl refl)

pub write_lines-requires-clause-lawful : goal.write_lines-requires-clause-lawful
write_lines-requires-clause-lawful g c =
    let kept = c.in_ok-make_room.ensures.kept in
    lawful_same c.in_ok-bench.bench c.make_room.new.self (same_back c.make_room.new.self c.in_ok-bench.bench kept) c.in_ok-bench.ensures.lawful

pub write_lines-requires-clause-few : goal.write_lines-requires-clause-few
write_lines-requires-clause-few g c =
    let same = ap length c.as_slice-lines.ensures in
    let sound = c.requires.sound.few_lines in
    omega (arith, same, sound)

pub write_lines-requires-clause-numbers : goal.write_lines-requires-clause-numbers
write_lines-requires-clause-numbers g c =
    let numbers = subst (λ (lines : List Line). AllByRecursion (LeavesNumbers (length lines)) c.in_ok-bench.bench.state) (sym c.as_slice-lines.ensures) c.in_ok-bench.ensures.numbers in
    subst (AllByRecursion (LeavesNumbers (length c.as_slice-lines.result.now))) (sym c.in_ok-make_room.ensures.kept.1) numbers

pub write_lines-requires-clause-desks : goal.write_lines-requires-clause-desks
write_lines-requires-clause-desks g c =
    let named = subst (λ (lines : List Line). AllByRecursion (NamesADesk (length c.in_ok-bench.bench.state)) lines) (sym c.as_slice-lines.ensures) c.in_ok-bench.ensures.desks in
    subst (λ (n : ℕ). AllByRecursion (NamesADesk n) c.as_slice-lines.result.now) (sym (ap length c.in_ok-make_room.ensures.kept.1)) named

pub returns : goal.returns
returns g c =
    let start = bench_for c.args.input c.args.session.now in
    let same = same_through c.make_room.new.self c.in_ok-bench.bench start c.in_ok-make_room.ensures.kept c.in_ok-bench.ensures.begun in
    rw (← c.as_slice-lines.ensures) (report_same (most_of c.args.bits) c.make_room.new.self start c.as_slice-lines.result.now _ _ _ same c.write_lines.ensures)
