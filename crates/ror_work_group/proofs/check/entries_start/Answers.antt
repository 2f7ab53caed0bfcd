use Rattle.std.proofs.Common.{◌≡◌, ◌∙◌, List, ℕ, Ok, Err, sym, subst}
use Rattle.std.specs.Str.{IsUtf8}
use Rattle.std.specs.Prelude.{IfSome}
use Rattle.std.proofs.lemmas.Str.{IsUtf8-from_is_utf8, is_utf8-from_IsUtf8}
use Rattle.ror_text.specs.Cursor.{cursor_at}
use Rattle.ror_bench.proofs.UniqueLemmas.{true_not_false}
use Rattle.ror_group.specs.Head.{head_fault, whole_head_at}
use Rattle.ror_work_group.proofs.Judging.{no_text, refused_head}
use Rattle.ror_work_group.proofs.check.entries_start.Goals as goal

pub returns-then-not-is_utf8-clause-refused : goal.returns-then-not-is_utf8-clause-refused
returns-then-not-is_utf8-clause-refused c =
    let s = c.args.session.now in
    let bytes = c.args.bytes.now in
    let bad : ¬ (IsUtf8 bytes) = λ utf8. true_not_false _ (c.is_utf8.ensures ∙ is_utf8-from_IsUtf8 bytes utf8) c.if-not-is_utf8.true in
    rw c.rejected.ensures (λ i. no_text {A = ℕ} (λ read start. Unit {0}) i s bytes c.requires bad)

pub returns-in-Ok-clause-start : goal.returns-in-Ok-clause-start
returns-in-Ok-clause-start c =
    let s = c.args.session.now in
    let bytes = c.args.bytes.now in
    record {
      utf8 = IsUtf8-from_is_utf8 bytes (sym c.is_utf8.ensures ∙ c.if-not-is_utf8.false);
      head = subst (λ (names : List (List ℕ)). whole_head_at names bytes ≡ Ok (cursor_at bytes c.in-Ok.start)) c.as_slice.ensures c.in-Ok.ensures.exact;
    }

pub returns-in-Err-clause-refused : goal.returns-in-Err-clause-refused
returns-in-Err-clause-refused c =
    let s = c.args.session.now in
    let bytes = c.args.bytes.now in
    let utf8 = IsUtf8-from_is_utf8 bytes (sym c.is_utf8.ensures ∙ c.if-not-is_utf8.false) in
    let read = subst (λ (names : List (List ℕ)). IfSome (head_fault c.in-Err.fault) (λ f. whole_head_at names bytes ≡ Err f)) c.as_slice.ensures c.in-Err.ensures.exact in
    λ i. refused_head {A = ℕ} (λ read start. Unit {0}) i s bytes c.requires c.in-Err.fault c.stop_at_head.result utf8 read c.stop_at_head.ensures.fault c.stop_at_head.ensures.memory
