use Rattle.std.proofs.Common.{◌≡◌, List, ℕ, nat_eq, true, false, sym, ap, ◌∙◌}
use Rattle.std.specs.List.{starts_with}
use Rattle.std.specs.Str.{is_utf8}
use Rattle.std.proofs.lemmas.Result.{IfOk-weaker, IfErr-weaker}
use Rattle.ror_entries.proofs.HeadedLemmas.{no_text, other_line, accepted_behind, rejected_behind}
use Rattle.ror_entries.proofs.headed.check_headed.Goals as goal

pub returns-then-not-is_utf8-clause-rejected : goal.returns-then-not-is_utf8-clause-rejected
returns-then-not-is_utf8-clause-rejected g c =
    let bytes = g.J.Judge.report c.args.judge.now in
    let off : is_utf8 bytes ≡ false = ap is_utf8 (sym c.bytes.ensures) ∙ sym c.is_utf8.ensures ∙ c.if-not-is_utf8.true in
    rw c.rejected.ensures (no_text c.args.head.now (g.J.Judge.kind c.args.judge.now) bytes off)

pub returns-then-not-starts_with-clause-rejected :
    goal.returns-then-not-starts_with-clause-rejected
returns-then-not-starts_with-clause-rejected g c =
    let bytes = g.J.Judge.report c.args.judge.now in
    let text : is_utf8 bytes ≡ true = ap is_utf8 (sym c.bytes.ensures) ∙ sym c.is_utf8.ensures ∙ c.if-not-is_utf8.false in
    let other : starts_with nat_eq bytes c.args.head.now ≡ false = ap (λ (l : List ℕ). starts_with nat_eq l c.args.head.now) (sym c.bytes-2.ensures) ∙ sym c.starts_with.ensures.value ∙ c.if-not-starts_with.true in
    rw c.rejected-then-not-starts_with.ensures (other_line c.args.head.now (g.J.Judge.kind c.args.judge.now) bytes text other)

pub returns-clause-accepted : goal.returns-clause-accepted
returns-clause-accepted g c =
    let bytes = g.J.Judge.report c.args.judge.now in
    let begins : starts_with nat_eq bytes c.args.head.now ≡ true = ap (λ (l : List ℕ). starts_with nat_eq l c.args.head.now) (sym c.bytes-2.ensures) ∙ sym c.starts_with.ensures.value ∙ c.if-not-starts_with.false in
    IfOk-weaker c.check_entries.result _ _ (λ x had. accepted_behind c.args.head.now (g.J.Judge.kind c.args.judge.now) bytes x begins had) c.check_entries.ensures.accepted

pub returns-clause-rejected : goal.returns-clause-rejected
returns-clause-rejected g c =
    let bytes = g.J.Judge.report c.args.judge.now in
    let text : is_utf8 bytes ≡ true = ap is_utf8 (sym c.bytes.ensures) ∙ sym c.is_utf8.ensures ∙ c.if-not-is_utf8.false in
    let begins : starts_with nat_eq bytes c.args.head.now ≡ true = ap (λ (l : List ℕ). starts_with nat_eq l c.args.head.now) (sym c.bytes-2.ensures) ∙ sym c.starts_with.ensures.value ∙ c.if-not-starts_with.false in
    IfErr-weaker c.check_entries.result _ _ (λ e had. rejected_behind c.args.head.now (g.J.Judge.kind c.args.judge.now) bytes e text begins had) c.check_entries.ensures.rejected
