use Rattle.std.proofs.Common.{rules, ◌≡◌, ◌≢◌, ℕ, List, true, false, drop, Ok, Err, refl, sym, ap, ◌∙◌, subst}
use Rattle.std.specs.Prelude.{IfSome}
use Rattle.ror_text.specs.Cursor.{cursor_at}
use Rattle.ror_proof.specs.Reading.{proof_fault}
use Rattle.ror_report.specs.Reading.{begins_end, end_at}
use Rattle.ror_report.specs.Text.{end_text}
use Rattle.ror_entries.specs.Reports.{miscounted}
use Rattle.ror_bench.proofs.ReportProofs.{last_read}
use Rattle.ror_entries.proofs.CheckLemmas.{late_rejects, end_rejects}
use Rattle.ror_entries.proofs.check.check_end.Goals as goal

pub returns-then-not-begins_end-clause-rejected : goal.returns-then-not-begins_end-clause-rejected
returns-then-not-begins_end-clause-rejected g c =
    let bytes = g.J.Judge.report c.args.judge.now in
    let is : c.begins_end.result ≡ false = search rules in
    let there : begins_end (drop c.args.from bytes) ≡ false = ap (λ (l : List ℕ). begins_end (drop c.args.from l)) (sym c.bytes.ensures) ∙ sym c.begins_end.ensures ∙ is in
    late_rejects (g.J.Judge.kind c.args.judge.now) bytes c.args.from _ c.late_entry.result there c.late_entry.ensures.rejected

pub returns-in-Ok-clause-last : goal.returns-in-Ok-clause-last
returns-in-Ok-clause-last g c =
    let bytes = g.J.Judge.report c.args.judge.now in
    let same : c.in-Ok.entries ≡ c.args.count = c.if-entries-count.true in
    let read : end_at (cursor_at bytes c.args.from) ≡ Ok c.in-Ok.entries = subst (λ (l : List ℕ). end_at (cursor_at l c.args.from) ≡ Ok c.in-Ok.entries) c.bytes-2.ensures c.in-Ok.ensures.exact in
    last_read bytes c.args.from c.in-Ok.entries read ∙ ap end_text same

pub returns-in-Ok-2-clause-rejected : goal.returns-in-Ok-2-clause-rejected
returns-in-Ok-2-clause-rejected g c =
    let bytes = g.J.Judge.report c.args.judge.now in
    let is : c.begins_end.result ≡ true = search rules in
    let there : begins_end (drop c.args.from bytes) ≡ true = ap (λ (l : List ℕ). begins_end (drop c.args.from l)) (sym c.bytes.ensures) ∙ sym c.begins_end.ensures ∙ is in
    let other : c.in-Ok.entries ≢ c.args.count = c.if-entries-count.false in
    let read : end_at (cursor_at bytes c.args.from) ≡ Ok c.in-Ok.entries = subst (λ (l : List ℕ). end_at (cursor_at l c.args.from) ≡ Ok c.in-Ok.entries) c.bytes-2.ensures c.in-Ok.ensures.exact in
    rw c.wrong_block.ensures (refl, miscounted c.in-Ok.entries there read (λ e. other (e ∙ sym c.requires.count)) refl)

pub returns-in-Err-clause-rejected : goal.returns-in-Err-clause-rejected
returns-in-Err-clause-rejected g c =
    let bytes = g.J.Judge.report c.args.judge.now in
    let is : c.begins_end.result ≡ true = search rules in
    let there : begins_end (drop c.args.from bytes) ≡ true = ap (λ (l : List ℕ). begins_end (drop c.args.from l)) (sym c.bytes.ensures) ∙ sym c.begins_end.ensures ∙ is in
    let read = subst (λ (l : List ℕ). IfSome (proof_fault c.in-Err.fault) (λ f. end_at (cursor_at l c.args.from) ≡ Err f)) c.bytes-2.ensures c.in-Err.ensures.exact in
    rw (c.misread.ensures, c.bytes-in-Err.ensures) (end_rejects (g.J.Judge.kind c.args.judge.now) bytes c.args.from _ c.in-Err.fault there read)
