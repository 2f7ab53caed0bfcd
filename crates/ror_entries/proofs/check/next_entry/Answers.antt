use Rattle.std.proofs.Common.{◌≡◌, ℕ, ◌+◌, List, true, false, drop, sym, ap, ◌∙◌, subst}
use Rattle.ror_report.specs.Reading.{begins_end}
use Rattle.ror_bench.specs.Reports.{IfRejected}
use Rattle.ror_bench.specs.Steps.{IsEarlyEnd}
use Rattle.ror_entries.proofs.SameLemmas.{refused_same}
use Rattle.ror_entries.proofs.CheckLemmas.{early_rejects, read_printable, refused_rejects, misread_rejects}
use Rattle.ror_entries.proofs.check.next_entry.Goals as goal

pub returns-then-begins_end-clause-rejected : goal.returns-then-begins_end-clause-rejected
returns-then-begins_end-clause-rejected g c =
    let bytes = g.J.Judge.report c.args.judge.now in
    let is : begins_end (drop c.args.from bytes) ≡ true = ap (λ (l : List ℕ). begins_end (drop c.args.from l)) (sym c.bytes.ensures) ∙ sym c.begins_end.ensures ∙ c.if-begins_end.true in
    let early = subst (λ (l : List ℕ). IfRejected (λ rejection. (rejection.block ≡ c.args.place + 1) × IsEarlyEnd l c.args.from rejection.reason) c.early_end.result) c.bytes-then-begins_end.ensures c.early_end.ensures.rejected in
    early_rejects (g.J.Judge.kind c.args.judge.now) bytes c.args.place c.args.from _ c.early_end.result is early

pub check-requires-clause-printable : goal.check-requires-clause-printable
check-requires-clause-printable g c =
    let printable = read_printable (g.J.Judge.kind c.args.judge.now) c.requires.lawful (g.J.Judge.report c.args.judge.now) c.args.from c.in-Ok.found c.in-Ok.after c.in-Ok.ensures.exact in
    (c.read.ensures.same.writes.printable c.in-Ok.found).1 printable

pub returns-in-Err-check-clause-rejected : goal.returns-in-Err-check-clause-rejected
returns-in-Err-check-clause-rejected g c =
    let kind = g.J.Judge.kind c.args.judge.now in
    let bytes = g.J.Judge.report c.args.judge.now in
    let is : begins_end (drop c.args.from bytes) ≡ false = ap (λ (l : List ℕ). begins_end (drop c.args.from l)) (sym c.bytes.ensures) ∙ sym c.begins_end.ensures ∙ c.if-begins_end.false in
    let refused = refused_same (g.J.Judge.kind c.read.new.self) kind c.read.ensures.same c.args.place c.in-Ok.found c.in-Err-check.fault c.in-Err-check.ensures.refused in
    rw c.refused_entry.ensures (refused_rejects kind bytes c.args.place c.args.from _ c.in-Ok.after c.in-Ok.found c.in-Err-check.fault is c.in-Ok.ensures.exact refused)

pub returns-in-Err-clause-rejected : goal.returns-in-Err-clause-rejected
returns-in-Err-clause-rejected g c =
    let bytes = g.J.Judge.report c.args.judge.now in
    let is : begins_end (drop c.args.from bytes) ≡ false = ap (λ (l : List ℕ). begins_end (drop c.args.from l)) (sym c.bytes.ensures) ∙ sym c.begins_end.ensures ∙ c.if-begins_end.false in
    rw (c.misread.ensures, c.bytes-in-Err.ensures, c.read.ensures.report) (misread_rejects (g.J.Judge.kind c.args.judge.now) bytes c.args.place c.args.from _ c.in-Err.fault is c.in-Err.ensures.exact)
