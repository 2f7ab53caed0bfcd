-- What is written of spans is proved, and nothing of it is too wide where no number is.
use Rattle.std.proofs.Common.{◌≡◌, ℕ, ◌+◌, List, [], ◌∷◌, refl, sym, ap, ◌∙◌, subst, arith}
use Rattle.std.specs.List.{sum_by}
use Rattle.ror_statement.specs.declared.statement.Numbered.{Numbered}
use Rattle.ror_statement.specs.declared.statement.Statement.{Statement}
use Rattle.ror_table.specs.Table.{DecisionTable}
use Rattle.ror_bench.specs.declared.report.Accepted.{Accepted}
use Rattle.ror_bench.proofs.ReportProofs.{sums}
use Rattle.ror_confidence.specs.Finding.{HasNoWideQuestions}
use Rattle.ror_confidence.specs.Levels.{level_lists}
use Rattle.ror_confidence.proofs.Searches.{none_wide}
use Rattle.ror_spans.specs.declared.entry.Entry.{Entry}
use Rattle.ror_spans.specs.declared.entry.Entry.TheVariants as entries
use Rattle.ror_spans.specs.Text.{header_text}
use Rattle.ror_entries.specs.Reports.{EachAt, accepted_of}
use Rattle.ror_entries.proofs.WriteLemmas.{given_are_proved}
use Rattle.ror_entries.proofs.HeadedLemmas.{one_headed_count}
use Rattle.ror_work_levels.specs.Entries.{entry_passed, IsGivenEntry, span_kind}
use Rattle.ror_work_levels.specs.Laws.{WrittenAreProved, WrittenAreNotRejected, NothingIsTooWide, EntriesHaveOneReason, BytesHaveOneRejection, OneFirstUnfit}
use Rattle.ror_work_levels.proofs.KindLemmas.{header_is_utf8, one_reason}
use Rattle.ror_work_levels.proofs.LevelCourses.{kind_of, not_both, one_list, rejected_once}
use Rattle.ror_work_levels.proofs.Suits as suits
use Rattle.ror_work_levels.proofs.Writing.{given_proved}

pub written_proved : WrittenAreProved
written_proved most i s levels bytes accepted few report =
    let had = report.holds in
    (few, record { standing = report.standing; stands = report.stands; holds = (had.0, had.1, had.2.2.proved) })

pub written_not_rejected : WrittenAreNotRejected
written_not_rejected most i s levels bytes accepted rejection read few report rejects =
    not_both i s read.lawful read.sound read.fit read.table levels bytes rejection accepted rejects (written_proved most i s levels bytes accepted few report)

pub entries_have_one_reason : EntriesHaveOneReason
entries_have_one_reason t lists = one_reason t lists

pub bytes_have_one_rejection : BytesHaveOneRejection
bytes_have_one_rejection i s levels bytes one other read first second =
    rejected_once i s read.lawful read.sound read.fit read.table levels bytes one other first second

pub first_unfit_lines : OneFirstUnfit
first_unfit_lines = record { one = suits.one_first_unfit; not_fit = suits.not_fit; fit_or = suits.fit_or }

-- ---- nothing is too wide

module _ (most : ℕ) (t : DecisionTable) (lists : List (List Statement)) (none : (a b : ℕ) → HasNoWideQuestions most t lists a b) where
  known : (place : ℕ) (x : Entry) → IsGivenEntry most t lists place x → (entry_passed x).wide ≡ 0
  known place (entries.Known a b span) given = refl
  known place (entries.Wide a b found) given = absurd (none_wide most t lists a b found given.1 (none a b))

  all_known : (place : ℕ) (xs : List Entry) → EachAt (IsGivenEntry most t lists) place xs → sum_by (λ x. (entry_passed x).wide) xs ≡ 0
  all_known place [] each = refl
  all_known place (x ∷ xs) each =
      let here = known place x each.0 in
      let rest = all_known (place + 1) xs each.1 in
      let split = sums (λ (y : Entry). (entry_passed y).wide) x xs in
      omega (arith, here, rest, split)

pub nothing_too_wide : NothingIsTooWide
nothing_too_wide most i s levels bytes accepted read none report =
    let had = report.holds in
    let lists = level_lists report.standing levels in
    let kind = kind_of i s read.lawful read.sound read.fit read.table levels report.standing report.stands in
    let narrow : (a b : ℕ) → HasNoWideQuestions most i.table lists a b = subst (λ (xs : List Numbered). (a b : ℕ) → HasNoWideQuestions most i.table (level_lists xs levels) a b) (one_list i s read.lawful read.sound read.fit none.standing report.standing none.stands report.stands) none.holds in
    let given = given_are_proved (span_kind i.table lists) (IsGivenEntry most i.table lists) (given_proved most i.table lists) had.0 had.2.0 had.2.1 in
    let count : accepted ≡ accepted_of (span_kind i.table lists) had.2.0 = one_headed_count header_text (span_kind i.table lists) kind header_is_utf8 bytes accepted (accepted_of (span_kind i.table lists) had.2.0) (had.0, had.1, had.2.2.proved) (had.0, had.1, given) in
    ap (λ (x : Accepted). x.wide) count ∙ all_known most i.table lists narrow 0 had.2.0 had.2.1.made.given
