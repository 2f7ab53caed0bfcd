use Rattle.std.proofs.Common.{◌∙◌, List, ℕ, subst}
use Rattle.std.proofs.lemmas.Result.{err_from_is_err_and}
use Rattle.ror_statement.specs.declared.statement.Statement.{Statement}
use Rattle.ror_table.specs.Table.{DecisionTable}
use Rattle.ror_bench.specs.Reports.{IfRejected}
use Rattle.ror_ranks_text.specs.Text.{header_text}
use Rattle.ror_entries.specs.Headed.{IsRejectedHeaded}
use Rattle.ror_work_ranks.specs.Entries.{ranks_kind}
use Rattle.ror_work_ranks.proofs.Judging.{report_refused}
use Rattle.ror_work_ranks.proofs.check.entries_in.Goals as goal

pub returns-in_err-check_headed : goal.returns-in_err-check_headed
returns-in_err-check_headed c =
    let i = c.args.input in
    let s = c.args.session in
    let bytes = c.args.bytes.now in
    let lists = c.in_ok-bench.lists.items in
    let judge = c.new-judge.result in
    let is = c.new-judge.ensures in
    let e = c.in_err-check_headed.field-0.0 in
    let read = subst (λ (h : List ℕ). IfRejected (IsRejectedHeaded h (ranks_kind judge.table judge.names judge.lists) judge.report) e) c.header.ensures c.in_err-check_headed.ensures.rejected in
    let of_bytes = subst (λ (b : List ℕ). IfRejected (IsRejectedHeaded header_text (ranks_kind judge.table judge.names judge.lists) b) e) is.report read in
    let of_table = subst (λ (t : DecisionTable). IfRejected (IsRejectedHeaded header_text (ranks_kind t judge.names judge.lists) bytes) e) (is.table ∙ c.in_ok-bench.ensures.table) of_bytes in
    let of_names = subst (λ (n : List (List ℕ)). IfRejected (IsRejectedHeaded header_text (ranks_kind i.table n judge.lists) bytes) e) is.names of_table in
    let why = subst (λ (l : List (List Statement)). IfRejected (IsRejectedHeaded header_text (ranks_kind i.table s.desks l) bytes) e) is.lists of_names in
    let p = err_from_is_err_and c.from_residual-in_err-check_headed.result c.from_residual-in_err-check_headed.ensures.1 in
    rw (p.1, p.2) (report_refused i s bytes c.requires.within lists c.in_ok-bench.ensures.closing e why c.in_err-check_headed.ensures.pure)
