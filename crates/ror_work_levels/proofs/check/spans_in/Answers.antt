use Rattle.std.proofs.Common.{List, ℕ, subst}
use Rattle.std.proofs.lemmas.Result.{err_from_is_err_and}
use Rattle.ror_statement.specs.declared.statement.Statement.{Statement}
use Rattle.ror_table.specs.Table.{DecisionTable}
use Rattle.ror_bench.specs.Reports.{IfRejected}
use Rattle.ror_confidence.specs.Levels.{level_lists}
use Rattle.ror_spans.specs.Text.{header_text}
use Rattle.ror_entries.specs.Headed.{IsAcceptedHeaded, IsRejectedHeaded}
use Rattle.ror_work_levels.specs.Entries.{span_kind}
use Rattle.ror_work_levels.proofs.Judging.{report_proved, report_refused}
use Rattle.ror_work_levels.proofs.check.spans_in.Goals as goal

pub returns-in_err-check_headed : goal.returns-in_err-check_headed
returns-in_err-check_headed c =
    let t = c.args.bench.table in
    let lists = level_lists c.args.standing.now c.args.levels.now in
    let bytes = c.args.bytes.now in
    let judge = c.in_ok-judge.judge in
    let is = c.in_ok-judge.ensures in
    let e = c.in_err-check_headed.field-0.0 in
    let read = subst (λ (h : List ℕ). IfRejected (IsRejectedHeaded h (span_kind judge.table judge.lists) judge.report) e) c.header.ensures c.in_err-check_headed.ensures.rejected in
    let of_bytes = subst (λ (b : List ℕ). IfRejected (IsRejectedHeaded header_text (span_kind judge.table judge.lists) b) e) is.report read in
    let of_table = subst (λ (u : DecisionTable). IfRejected (IsRejectedHeaded header_text (span_kind u judge.lists) bytes) e) is.table of_bytes in
    let why = subst (λ (l : List (List Statement)). IfRejected (IsRejectedHeaded header_text (span_kind t l) bytes) e) is.lists of_table in
    let p = err_from_is_err_and c.from_residual-in_err-check_headed.result c.from_residual-in_err-check_headed.ensures.1 in
    rw (p.1, p.2) (report_refused t lists bytes c.requires.within e why c.in_err-check_headed.ensures.pure)

pub returns : goal.returns
returns c =
    let t = c.args.bench.table in
    let lists = level_lists c.args.standing.now c.args.levels.now in
    let bytes = c.args.bytes.now in
    let judge = c.in_ok-judge.judge in
    let is = c.in_ok-judge.ensures in
    let x = c.in_ok-check_headed.field-0 in
    let read = subst (λ (h : List ℕ). IsAcceptedHeaded h (span_kind judge.table judge.lists) judge.report x) c.header.ensures c.in_ok-check_headed.ensures.accepted in
    let of_bytes = subst (λ (b : List ℕ). IsAcceptedHeaded header_text (span_kind judge.table judge.lists) b x) is.report read in
    let of_table = subst (λ (u : DecisionTable). IsAcceptedHeaded header_text (span_kind u judge.lists) bytes x) is.table of_bytes in
    report_proved t lists bytes c.requires.within x (subst (λ (l : List (List Statement)). IsAcceptedHeaded header_text (span_kind t l) bytes x) is.lists of_table)
