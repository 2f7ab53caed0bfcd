use Rattle.std.proofs.Common.{◌∙◌, List, ℕ, drop, subst}
use Rattle.std.proofs.lemmas.Result.{err_from_is_err_and}
use Rattle.ror_text.specs.Cursor.{cursor_at}
use Rattle.ror_statement.specs.declared.statement.Statement.{Statement}
use Rattle.ror_table.specs.Table.{DecisionTable}
use Rattle.ror_bench.specs.Reports.{IfRejected}
use Rattle.ror_entries.specs.Reports.{IsProvedEntries, IsRejectedEntries}
use Rattle.ror_work_group.specs.Entries.{group_kind}
use Rattle.ror_work_group.specs.Group.{ProvesGroup, RefusesGroup}
use Rattle.ror_work_group.proofs.Judging.{any_read, entries_refused, entries_proved}
use Rattle.ror_work_group.proofs.check.answers_in.Goals as goal

pub returns-in_err-start : goal.returns-in_err-start
returns-in_err-start c =
    let i = c.args.input in
    let s = c.args.session.now in
    let bytes = c.args.bytes.now in
    let p = err_from_is_err_and c.from_residual.result c.from_residual.ensures.1 in
    rw (p.1, p.2) (any_read {A = ℕ} (λ read start. Unit {0}) (ProvesGroup i s) (RefusesGroup i s) bytes c.in_err-start.field-0.0 (c.in_err-start.ensures.refused i))

pub returns-in_err-check_entries : goal.returns-in_err-check_entries
returns-in_err-check_entries c =
    let i = c.args.input in
    let s = c.args.session.now in
    let bytes = c.args.bytes.now in
    let start = c.in_ok-start.start in
    let judge = c.in_ok-judge.judge in
    let lists = c.in_ok-bench.lists.items in
    let e = c.in_err-check_entries.field-0.0 in
    let table = c.in_ok-judge.ensures.table ∙ c.table.ensures.value ∙ c.in_ok-bench.ensures.table in
    let same = c.in_ok-judge.ensures.lists ∙ c.as_slice.ensures.value in
    let there = subst (λ (l : List ℕ). IfRejected (IsRejectedEntries (group_kind judge.table judge.lists) l start) e) c.in_ok-judge.ensures.report c.in_err-check_entries.ensures.rejected in
    let here = subst (λ (t : DecisionTable). IfRejected (IsRejectedEntries (group_kind t judge.lists) bytes start) e) table there in
    let why = subst (λ (ls : List (List Statement)). IfRejected (IsRejectedEntries (group_kind i.table ls) bytes start) e) same here in
    let p = err_from_is_err_and c.from_residual-in_err-check_entries.result c.from_residual-in_err-check_entries.ensures.1 in
    rw (p.1, p.2) (entries_refused (ProvesGroup i s) i s bytes c.requires.within (cursor_at bytes start) lists c.in_ok-start.ensures.start.utf8 c.in_ok-start.ensures.start.head c.in_ok-bench.ensures.closing e why c.in_err-check_entries.ensures.pure)

pub returns : goal.returns
returns c =
    let i = c.args.input in
    let s = c.args.session.now in
    let bytes = c.args.bytes.now in
    let start = c.in_ok-start.start in
    let judge = c.in_ok-judge.judge in
    let lists = c.in_ok-bench.lists.items in
    let x = c.in_ok-check_entries.field-0 in
    let table = c.in_ok-judge.ensures.table ∙ c.table.ensures.value ∙ c.in_ok-bench.ensures.table in
    let same = c.in_ok-judge.ensures.lists ∙ c.as_slice.ensures.value in
    let there = subst (λ (l : List ℕ). IsProvedEntries (group_kind judge.table judge.lists) (drop start l) x) c.in_ok-judge.ensures.report c.in_ok-check_entries.ensures.accepted.proved in
    let here = subst (λ (t : DecisionTable). IsProvedEntries (group_kind t judge.lists) (drop start bytes) x) table there in
    let proved = subst (λ (ls : List (List Statement)). IsProvedEntries (group_kind i.table ls) (drop start bytes) x) same here in
    entries_proved i s bytes c.requires.within (cursor_at bytes start) lists c.in_ok-start.ensures.start.head c.in_ok-bench.ensures.closing x proved

pub returns-in_err-judge : goal.returns-in_err-judge
returns-in_err-judge c =
    let p = err_from_is_err_and c.from_residual-in_err-judge.result c.from_residual-in_err-judge.ensures.1 in
    rw (p.1, p.2) tt
