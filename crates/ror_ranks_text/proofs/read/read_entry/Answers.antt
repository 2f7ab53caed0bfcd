use Rattle.std.proofs.Common.{◌≡◌, ℕ, List, Ok, sym, subst}
use Rattle.ror_text.specs.Cursor.{cursor_at}
use Rattle.ror_report.specs.Desk.{desk_line}
use Rattle.ror_ranks_text.specs.declared.entry.Entry.{Entry}
use Rattle.ror_ranks_text.proofs.EntryLemmas.{entry_step, entry_is_text}
use Rattle.ror_ranks_text.proofs.read.read_entry.Goals as goal

pub returns-clause-printable : goal.returns-clause-printable
returns-clause-printable c =
    let t = c.args.table.now in
    let bytes = c.args.bytes.now in
    let read : Entry = record { desk = c.in_ok-desk.desk; body = c.in_ok-body.body } in
    let from = cursor_at bytes c.args.from in
    let behind = cursor_at bytes c.in_ok-name.next in
    let after = cursor_at bytes c.in_ok-body.next in
    let line : desk_line from ≡ Ok (c.in_ok-desk.desk, behind) = subst (λ (name : List ℕ). desk_line from ≡ Ok (name, behind)) (sym c.in_ok-desk.ensures) c.in_ok-name.ensures.exact in
    (entry_is_text t from read after (entry_step t from behind after read line c.in_ok-body.ensures.exact)).printable
