use Rattle.std.proofs.Common.{rules, ◌≡◌, ℕ, List, length, refl, sym, ap, subst, ◌∙◌}
use Rattle.std.specs.List.{AllByRecursion}
use Rattle.std.proofs.lemmas.List.{length-replicate}
use Rattle.std.proofs.lemmas.Result.{err_from_is_err_and}
use Rattle.ror_table.specs.Table.{DecisionTable}
use Rattle.ror_bench.specs.declared.kept.Keep.{Keep}
use Rattle.ror_bench.specs.declared.kept.KeptLine.{KeptLine}
use Rattle.ror_bench.specs.Bench.{HoldTheSame, LeavesNumbers}
use Rattle.ror_bench.specs.Reports.{IfRejected, NamesADesk}
use Rattle.ror_show_ground.specs.Ready.{IsReady}
use Rattle.ror_frame.specs.Inputs.{bench_for}
use Rattle.ror_frame.proofs.Desks.{numbers_left}
use Rattle.ror_show_check.specs.Checking.{ProvesOver, RejectsOver}
use Rattle.ror_show_pages.specs.Reads.{ReadsKept}
use Rattle.ror_show_pages.proofs.ReadLemmas.{kept_ready}
use Rattle.ror_show_check.proofs.Checking.{refused_too, rejected_over, proved_over}
use Rattle.ror_show_check.proofs.check.count_in.Goals as goal

pub returns-in_err-keep : goal.returns-in_err-keep
returns-in_err-keep c =
    let p = err_from_is_err_and c.from_residual-in_err-keep.result c.from_residual-in_err-keep.ensures.1 in
    rw (p.1, p.2) tt

pub kept_in-requires-clause-desks : goal.kept_in-requires-clause-desks
kept_in-requires-clause-desks c =
    let i = c.args.input in
    let s = c.args.session.now in
    let held : HoldTheSame c.in_ok-bench.bench (bench_for i s) = search rules in
    let long : length c.in_ok-bench.bench.state ≡ length s.desks = ap length held.1 ∙ length-replicate (length s.desks) _ in
    subst (λ (n : ℕ). AllByRecursion (NamesADesk n) s.lines) (sym long) c.requires.sound.desks

pub kept_in-requires-clause-numbers : goal.kept_in-requires-clause-numbers
kept_in-requires-clause-numbers c =
    let i = c.args.input in
    let s = c.args.session.now in
    let held : HoldTheSame c.in_ok-bench.bench (bench_for i s) = search rules in
    subst (AllByRecursion (LeavesNumbers (length s.lines))) (sym held.1) (numbers_left i (length s.desks) (length s.lines) c.requires.lawful c.requires.sound.few_lines)

pub returns-in_err-kept : goal.returns-in_err-kept
returns-in_err-kept c =
    let i = c.args.input in
    let s = c.args.session.now in
    let held : HoldTheSame c.in_ok-bench.bench (bench_for i s) = search rules in
    let p = err_from_is_err_and c.from_residual-in_err-kept.result c.from_residual-in_err-kept.ensures.1 in
    rw (p.1, p.2) (refused_too (ReadsKept c.as_slice.result.now i s) i s c.args.text c.args.bytes.now _ _ refl (c.in_err-kept.ensures.read i held))

pub count_over-requires-clause-ready : goal.count_over-requires-clause-ready
count_over-requires-clause-ready c =
    let i = c.args.input in
    let s = c.args.session.now in
    let held : HoldTheSame c.in_ok-bench.bench (bench_for i s) = search rules in
    let table : c.table.result.now ≡ i.table = c.table.ensures.value ∙ c.in_ok-kept.ensures.table ∙ held.0 in
    let ready = kept_ready c.as_slice.result.now i s c.args.bytes.now c.in_ok-kept.kept c.requires.lawful (c.in_ok-kept.ensures.read i held) in
    subst (λ (t : DecisionTable). AllByRecursion (IsReady t) c.as_slice-2.result.now) (sym table) (subst (AllByRecursion (IsReady i.table)) (sym c.as_slice-2.ensures) ready)

pub returns : goal.returns
returns c =
    let i = c.args.input in
    let s = c.args.session.now in
    let held : HoldTheSame c.in_ok-bench.bench (bench_for i s) = search rules in
    let table : c.table.result.now ≡ i.table = c.table.ensures.value ∙ c.in_ok-kept.ensures.table ∙ held.0 in
    let e = c.in-Err.error in
    let of_kept = subst (λ (ks : List KeptLine). IfRejected (RejectsOver c.table.result.now ks c.args.text) e) c.as_slice-2.ensures c.in-Err.ensures.rejected in
    let why = subst (λ (t : DecisionTable). IfRejected (RejectsOver t c.in_ok-kept.kept c.args.text) e) table of_kept in
    let chosen = c.as_slice.ensures.value ∙ c.in_ok-keep.ensures in
    let reads = subst (λ (keep : List Keep). ReadsKept keep i s c.args.bytes.now c.in_ok-kept.kept) chosen (c.in_ok-kept.ensures.read i held) in
    rw c.stop_at.ensures (rejected_over i s c.args.text c.args.bytes.now c.in_ok-kept.kept e reads why c.in-Err.ensures.pure)

pub returns-in-Ok : goal.returns-in-Ok
returns-in-Ok c =
    let i = c.args.input in
    let s = c.args.session.now in
    let held : HoldTheSame c.in_ok-bench.bench (bench_for i s) = search rules in
    let table : c.table.result.now ≡ i.table = c.table.ensures.value ∙ c.in_ok-kept.ensures.table ∙ held.0 in
    let count = c.in-Ok.count in
    let of_kept = subst (λ (ks : List KeptLine). ProvesOver c.table.result.now ks c.args.text count) c.as_slice-2.ensures c.in-Ok.ensures.proved in
    let proves = subst (λ (t : DecisionTable). ProvesOver t c.in_ok-kept.kept c.args.text count) table of_kept in
    let chosen = c.as_slice.ensures.value ∙ c.in_ok-keep.ensures in
    let reads = subst (λ (keep : List Keep). ReadsKept keep i s c.args.bytes.now c.in_ok-kept.kept) chosen (c.in_ok-kept.ensures.read i held) in
    proved_over i s c.args.text c.args.bytes.now c.in_ok-kept.kept count reads proves
