use Rattle.std.proofs.Common.{◌∙◌, List, ℕ, drop, sym, subst}
use Rattle.std.proofs.lemmas.Result.{err_from_is_err_and}
use Rattle.ror_text.specs.Cursor.{cursor_at}
use Rattle.ror_statement.specs.declared.statement.Statement.{Statement}
use Rattle.ror_table.specs.Table.{DecisionTable}
use Rattle.ror_bench.specs.Reports.{IfRejected}
use Rattle.ror_entries.specs.Reports.{AreProvedEntries, IsRejectedEntries}
use Rattle.ror_work_group.specs.Entries.{group_kind}
use Rattle.ror_work_group.specs.Group.{KeepsGroup, RefusesGroup}
use Rattle.ror_work_group.proofs.Judging.{any_read, entries_refused, entries_kept}
use Rattle.ror_work_group.proofs.keep.keep_group.Goals as goal

pub returns-in_err-start : goal.returns-in_err-start
returns-in_err-start c =
    let s = c.args.session.now in
    let bytes = c.args.bytes.now in
    let p = err_from_is_err_and c.from_residual.result c.from_residual.ensures.1 in
    λ i table closing. rw (p.1, p.2) (any_read {A = ℕ} (λ read start. Unit {0}) (KeepsGroup i s) (RefusesGroup i s) bytes c.in_err-start.field-0.0 (c.in_err-start.ensures.refused i))

pub returns-in_err-judge : goal.returns-in_err-judge
returns-in_err-judge c =
    let p = err_from_is_err_and c.from_residual-in_err-judge.result c.from_residual-in_err-judge.ensures.1 in
    λ i table closing. rw (p.1, p.2) tt

pub returns-in_err-kept : goal.returns-in_err-kept
returns-in_err-kept c =
    let s = c.args.session.now in
    let bytes = c.args.bytes.now in
    let lists = c.args.lists.now in
    let start = c.in_ok-start.start in
    let judge = c.in_ok-judge.judge in
    let e = c.in_err-kept.field-0.0 in
    let there = subst (λ (l : List ℕ). IfRejected (IsRejectedEntries (group_kind judge.table judge.lists) l start) e) c.in_ok-judge.ensures.report c.in_err-kept.ensures.rejected in
    let here = subst (λ (ls : List (List Statement)). IfRejected (IsRejectedEntries (group_kind judge.table ls) bytes start) e) c.in_ok-judge.ensures.lists there in
    let p = err_from_is_err_and c.from_residual-in_err-kept.result c.from_residual-in_err-kept.ensures.1 in
    λ i table closing.
    let why = subst (λ (t : DecisionTable). IfRejected (IsRejectedEntries (group_kind t lists) bytes start) e) (c.in_ok-judge.ensures.table ∙ sym table) here in
    rw (p.1, p.2) (entries_refused (KeepsGroup i s) i s bytes c.requires.within (cursor_at bytes start) lists c.in_ok-start.ensures.start.utf8 c.in_ok-start.ensures.start.head closing e why c.in_err-kept.ensures.pure)

pub returns : goal.returns
returns c =
    let s = c.args.session.now in
    let bytes = c.args.bytes.now in
    let lists = c.args.lists.now in
    let start = c.in_ok-start.start in
    let judge = c.in_ok-judge.judge in
    let entries = c.in_ok-kept.kept.items in
    let there = subst (λ (l : List ℕ). AreProvedEntries (group_kind judge.table judge.lists) (drop start l) entries) c.in_ok-judge.ensures.report c.in_ok-kept.ensures.kept in
    let here = subst (λ (ls : List (List Statement)). AreProvedEntries (group_kind judge.table ls) (drop start bytes) entries) c.in_ok-judge.ensures.lists there in
    λ i table closing.
    let proved = subst (λ (t : DecisionTable). AreProvedEntries (group_kind t lists) (drop start bytes) entries) (c.in_ok-judge.ensures.table ∙ sym table) here in
    rw c.from.ensures (entries_kept i s bytes c.requires.within (cursor_at bytes start) lists c.in_ok-start.ensures.start.head closing entries proved)
