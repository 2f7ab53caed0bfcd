-- What is written of a group is proved, and nothing of it is too wide where no number is.
use Rattle.std.proofs.Common.{◌≡◌, ℕ, ◌+◌, true, false, List, [], ◌∷◌, Some, refl, sym, ap, ◌∙◌, subst, arith}
use Rattle.std.specs.Prelude.{cond, count_by}
use Rattle.std.specs.Bool.{beq}
use Rattle.std.specs.List.{AllByRecursion, sum_by}
use Rattle.ror_text.proofs.Everywhere.{all_at}
use Rattle.ror_statement.specs.declared.question.Conclusion.{Conclusion}
use Rattle.ror_statement.specs.declared.statement.Statement.{Statement}
use Rattle.ror_table.specs.Table.{DecisionTable}
use Rattle.ror_proof.specs.declared.answer.Answer.{Answer}
use Rattle.ror_proof.specs.declared.answer.Verdict.{Verdict}
use Rattle.ror_proof.specs.declared.answer.Verdict.TheVariants as verdicts
use Rattle.ror_check.specs.Proof.{is_wide}
use Rattle.ror_bench.specs.Blocks.{answers_passed}
use Rattle.ror_bench.specs.Desks.{conclusion_of, IsNarrowQuestion}
use Rattle.ror_bench.specs.declared.report.Accepted.{Accepted}
use Rattle.ror_bench.proofs.AgreeLemmas.{narrow_concludes}
use Rattle.ror_bench.proofs.ReportProofs.{sums}
use Rattle.ror_group.specs.declared.entry.Entry.{Entry}
use Rattle.ror_group.specs.declared.quartet.Word4.TheVariants as words
use Rattle.ror_group.specs.Combining.{Asked, asked_on, InStep, one_says}
use Rattle.ror_group.specs.Laws.{HasNoWideWord}
use Rattle.ror_group.proofs.WideWords.{no_wide_words}
use Rattle.ror_entries.specs.Reports.{EachAt, accepted_of, IsProvedEntries, entries_text}
use Rattle.ror_entries.proofs.SpellingLemmas.{one_count}
use Rattle.ror_entries.proofs.WriteLemmas.{given_are_proved}
use Rattle.ror_entries.specs.Pairs.{pairs_of}
use Rattle.ror_work_group.specs.Entries.{group_kind, IsGivenFor, IsGivenEntry, IsProvedEntry}
use Rattle.ror_work_group.specs.Laws.{WrittenAreProved, WrittenAreNotRejected, AsksNothingWideOn, AsksNothingWide, NothingIsTooWide, DoneSaysNothingWide, AcceptedSaysNothingWide}
use Rattle.ror_work_group.proofs.GroupCourses.{kind_of_lists, one_lists, not_both}
use Rattle.ror_work_group.proofs.Writing.{given_proved}

-- ---- what is written is proved

pub written_proved : WrittenAreProved
written_proved most i s bytes accepted few report = (few, record { after = report.after; head = report.head; lists = report.lists; closing = report.closing; body = report.body.2.proved })

pub written_not_rejected : WrittenAreNotRejected
written_not_rejected most i s bytes accepted rejection table lawful suited few report rejects = not_both i s table lawful suited bytes rejection accepted rejects (written_proved most i s bytes accepted few report)

-- ---- and says nothing wide where no answer is

both_none : {A : Type 0} (f : A → ℕ) (x : A) (xs : List A) → sum_by f (x ∷ xs) ≡ 0 → (f x ≡ 0) × (sum_by f xs ≡ 0)
both_none f x xs none = let split = sums f x xs in (omega (arith, split, none), omega (arith, split, none))

abbrev one_wide : Answer → ℕ
one_wide x = cond (beq (is_wide x.verdict) true) 1 0

none_wide : (xs : List Answer) → count_by (λ x. beq (is_wide x.verdict) true) xs ≡ 0 → one_says words.Wide xs ≡ false
none_wide [] none = refl
none_wide (x ∷ xs) none = let parts = both_none one_wide x xs none in by x.verdict refl parts.0 (none_wide xs parts.1)
  where
    by : (v : Verdict) → x.verdict ≡ v → one_wide x ≡ 0 → one_says words.Wide xs ≡ false → one_says words.Wide (x ∷ xs) ≡ false
    by (verdicts.Yes proof) is here others = rw is others
    by (verdicts.No proof) is here others = rw is others
    by (verdicts.Contradiction proof) is here others = rw is others
    by (verdicts.Wide system note) is here others = let one = rw is at here in absurd (omega (arith, one))

words_of : (t : DecisionTable) (lists : List (List Statement)) (place : ℕ) (xs : List Entry) → EachAt (IsProvedEntry t lists) place xs → sum_by (λ x. (answers_passed x.answers).wide) xs ≡ 0 → AllByRecursion (λ x. HasNoWideWord x.quartet) xs
words_of t lists place [] each none = tt
words_of t lists place (x ∷ xs) each none =
    let parts = both_none (λ (y : Entry). (answers_passed y.answers).wide) x xs none in
    (subst HasNoWideWord (sym each.0.proved.words) (no_wide_words x.answers (none_wide x.answers parts.0)), words_of t lists (place + 1) xs each.1 parts.1)

entries_say : (t : DecisionTable) (lists : List (List Statement)) (body : List ℕ) (accepted : Accepted) → IsProvedEntries (group_kind t lists) body accepted → accepted.wide ≡ 0 → (entries : List Entry) × (body ≡ entries_text (group_kind t lists) entries) × AllByRecursion (λ x. HasNoWideWord x.quartet) entries
entries_say t lists body accepted proved none = (proved.entries, proved.text, words_of t lists 0 proved.entries proved.proved (sym (ap (λ (a : Accepted). a.wide) proved.counted) ∙ none))

pub done_nothing_wide : DoneSaysNothingWide
done_nothing_wide most i s bytes accepted report none = record { after = report.after; head = report.head; lists = report.lists; closing = report.closing; body = entries_say i.table report.lists report.after.rest accepted report.body.2.proved none }

pub accepted_nothing_wide : AcceptedSaysNothingWide
accepted_nothing_wide i s bytes accepted proved none =
    let report = proved.1 in
    record { after = report.after; head = report.head; lists = report.lists; closing = report.closing; body = entries_say i.table report.lists report.after.rest accepted report.body none }

-- ---- no answer is too wide where no number is

abbrev wide_of : Verdict → ℕ
wide_of v = cond (beq (is_wide v) true) 1 0

concluded : (v : Verdict) (c : Conclusion) → conclusion_of v ≡ Some c → wide_of v ≡ 0
concluded (verdicts.Yes proof) c some = refl
concluded (verdicts.No proof) c some = refl
concluded (verdicts.Contradiction proof) c some = refl
concluded (verdicts.Wide system note) c some = absurd cc

module _ (most : ℕ) (t : DecisionTable) where
  narrow_answers : (qs : List Asked) (xs : List Answer) → InStep (IsGivenFor most t) qs xs → AllByRecursion (λ q. IsNarrowQuestion most t q.list q.question) qs → sum_by one_wide xs ≡ 0
  narrow_answers [] [] given narrow = refl
  narrow_answers [] (x ∷ xs) given narrow = absurd given
  narrow_answers (q ∷ qs) [] given narrow = absurd given
  narrow_answers (q ∷ qs) (x ∷ xs) given narrow =
      let concludes = narrow_concludes most t q.list q.question x given.0 narrow.0 in
      let here : one_wide x ≡ 0 = concluded x.verdict concludes.0 concludes.1 in
      let rest = narrow_answers qs xs given.1 narrow.1 in
      let split = sums one_wide x xs in
      omega (arith, here, rest, split)

  narrow_entries : (lists : List (List Statement)) → AsksNothingWide most t lists → (place : ℕ) (xs : List Entry) → EachAt (IsGivenEntry most t lists) place xs → sum_by (λ x. (answers_passed x.answers).wide) xs ≡ 0
  narrow_entries lists narrow place [] each = refl
  narrow_entries lists narrow place (x ∷ xs) each =
      let asked = all_at (AsksNothingWideOn most t lists) (pairs_of t) place (x.first, x.second) narrow each.0.pair in
      let here : (answers_passed x.answers).wide ≡ 0 = narrow_answers (asked_on x.first x.second lists) x.answers each.0.answers asked in
      let rest = narrow_entries lists narrow (place + 1) xs each.1 in
      let split = sums (λ (y : Entry). (answers_passed y.answers).wide) x xs in
      omega (arith, here, rest, split)

pub nothing_too_wide : NothingIsTooWide
nothing_too_wide most i s lists bytes accepted table lawful suited closing narrow report =
    let told = report.lists in
    let kind = kind_of_lists i s table lawful told report.closing in
    let here = subst (AsksNothingWide most i.table) (one_lists i s table lawful suited bytes lists told closing report.closing) narrow in
    let given = given_are_proved (group_kind i.table told) (IsGivenEntry most i.table told) (given_proved most i.table told) report.after.rest report.body.0 report.body.1 in
    let count : accepted ≡ accepted_of (group_kind i.table told) report.body.0 = one_count (group_kind i.table told) kind report.after.rest accepted (accepted_of (group_kind i.table told) report.body.0) report.body.2.proved given in
    let none : accepted.wide ≡ 0 = ap (λ (x : Accepted). x.wide) count ∙ narrow_entries most i.table told here 0 report.body.0 report.body.1.made.given in
    (none, done_nothing_wide most i s bytes accepted report none)
