use Rattle.std.proofs.Common.{rules, ◌≡◌, ◌∙◌, ℕ, length, sym, ap, subst}
use Rattle.std.specs.List.{AllByRecursion}
use Rattle.std.proofs.lemmas.List.{length-replicate}
use Rattle.ror_bench.specs.Bench.{HoldTheSame, LeavesNumbers}
use Rattle.ror_bench.specs.Reports.{NamesADesk}
use Rattle.ror_bench.proofs.SameLemmas.{same_back, lawful_same}
use Rattle.ror_frame.specs.Inputs.{bench_for}
use Rattle.ror_frame.proofs.Desks.{lawful_desks, numbers_left}
use Rattle.ror_frame.proofs.opened.opened_desks.Goals as goal

pub returns-clause-count : goal.returns-clause-count
returns-clause-count c =
    let s = c.args.session.now in
    let begun : HoldTheSame c.in_ok-bench.bench (bench_for c.args.input s) = search rules in
    ap length begun.1 ∙ length-replicate (length s.desks) _

pub returns-clause-lawful : goal.returns-clause-lawful
returns-clause-lawful c =
    let i = c.args.input in
    let start = bench_for i c.args.session.now in
    let begun : HoldTheSame c.in_ok-bench.bench start = search rules in
    lawful_same start c.in_ok-bench.bench (same_back c.in_ok-bench.bench start begun) (lawful_desks i (length c.args.session.now.desks) c.requires.lawful)

pub returns-clause-desks : goal.returns-clause-desks
returns-clause-desks c =
    let s = c.args.session.now in
    let begun : HoldTheSame c.in_ok-bench.bench (bench_for c.args.input s) = search rules in
    let long : length c.in_ok-bench.bench.state ≡ length s.desks = ap length begun.1 ∙ length-replicate (length s.desks) _ in
    subst (λ (n : ℕ). AllByRecursion (NamesADesk n) s.lines) (sym long) c.requires.sound.desks

pub returns-clause-numbers : goal.returns-clause-numbers
returns-clause-numbers c =
    let i = c.args.input in
    let s = c.args.session.now in
    let begun : HoldTheSame c.in_ok-bench.bench (bench_for i s) = search rules in
    subst (AllByRecursion (LeavesNumbers (length s.lines))) (sym begun.1) (numbers_left i (length s.desks) (length s.lines) c.requires.lawful c.requires.sound.few_lines)
