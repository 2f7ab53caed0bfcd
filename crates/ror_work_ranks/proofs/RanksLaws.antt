-- What is written of ranks is proved, and each entry concludes where no number is too wide.
use Rattle.std.proofs.Common.{◌≡◌, ℕ, ◌+◌, false, List, [], ◌∷◌, refl, ap, ◌∙◌, arith}
use Rattle.std.specs.List.{AllByRecursion, count_by, sum_by}
use Rattle.ror_text.proofs.Everywhere.{all_at}
use Rattle.ror_statement.specs.declared.statement.Statement.{Statement}
use Rattle.ror_table.specs.Table.{DecisionTable}
use Rattle.ror_bench.specs.declared.report.Accepted.{Accepted}
use Rattle.ror_bench.proofs.ReportProofs.{sums}
use Rattle.ror_ranks.specs.declared.extreme.Extreme.{Extreme}
use Rattle.ror_ranks.specs.Proof.{is_wide}
use Rattle.ror_ranks_text.specs.Given.{IsGivenBody}
use Rattle.ror_ranks.specs.Laws.{IsNarrowList}
use Rattle.ror_ranks.proofs.GivenRanks.{none_too_wide}
use Rattle.ror_ranks_text.specs.declared.entry.Entry.{Entry}
use Rattle.ror_ranks_text.specs.declared.entry.EntryBody.{EntryBody}
use Rattle.ror_ranks_text.specs.declared.entry.EntryBody.TheVariants as bodies
use Rattle.ror_ranks_text.specs.Text.{header_text}
use Rattle.ror_entries.specs.Reports.{EachAt, accepted_of}
use Rattle.ror_entries.proofs.EachLemmas.{each_by}
use Rattle.ror_entries.proofs.WriteLemmas.{given_are_proved}
use Rattle.ror_entries.proofs.HeadedLemmas.{one_headed_count}
use Rattle.ror_work_ranks.specs.Entries.{body_passed, IsGivenEntry}
use Rattle.ror_work_ranks.specs.Ranking.{kind_over}
use Rattle.ror_work_ranks.specs.Laws.{WrittenAreProved, WrittenAreNotRejected, Concludes, NothingIsTooWide}
use Rattle.ror_work_ranks.proofs.Courses.{kind_of_lists, over, not_both}
use Rattle.ror_ranks_text.proofs.EntryUtf8.{header_is_utf8}
use Rattle.ror_work_ranks.proofs.Writing.{given_proved}

pub written_proved : WrittenAreProved
written_proved most i s bytes accepted few report =
    let had = report.holds in
    (few, record { lists = report.lists; closing = report.closing; holds = (had.0, had.1, had.2.2.proved) })

pub written_not_rejected : WrittenAreNotRejected
written_not_rejected most i s bytes accepted rejection read few report rejects =
    not_both i s read.table read.lawful read.sound read.suited bytes rejection accepted rejects (written_proved most i s bytes accepted few report)

-- ---- nothing is too wide

none_counted : (xs : List Extreme) → AllByRecursion (λ x. is_wide x.said ≡ false) xs → count_by (λ x. is_wide x.said) xs ≡ 0
none_counted [] none = refl
none_counted (x ∷ xs) none = rw none.0 (none_counted xs none.1)

narrow_body : (most : ℕ) (t : DecisionTable) (list : List Statement) (body : EntryBody) → IsNarrowList most t list → IsGivenBody most t list body → (body_passed body).wide ≡ 0
narrow_body most t list (bodies.Ranks xs) narrow given = none_counted xs (none_too_wide most t list xs narrow given)
narrow_body most t list (bodies.Contradiction m) narrow given = refl
narrow_body most t list (bodies.BaseWide note) narrow given = absurd (narrow.base note.path note.place given.0)

module _ (most : ℕ) (t : DecisionTable) (names : List (List ℕ)) (lists : List (List Statement)) (narrow : AllByRecursion (IsNarrowList most t) lists) where
  narrow_entry : (place : ℕ) (x : Entry) → IsGivenEntry most t names lists place x → (body_passed x.body).wide ≡ 0
  narrow_entry place x given = narrow_body most t given.list x.body (all_at (IsNarrowList most t) lists place given.list narrow given.list_there) given.holds

  counts : (place : ℕ) (xs : List Entry) → EachAt (IsGivenEntry most t names lists) place xs → sum_by (λ x. (body_passed x.body).wide) xs ≡ 0
  counts place [] each = refl
  counts place (x ∷ xs) each =
      let none = narrow_entry place x each.0 in
      let rest = counts (place + 1) xs each.1 in
      let split = sums (λ (y : Entry). (body_passed y.body).wide) x xs in
      omega (arith, none, rest, split)

pub nothing_too_wide : NothingIsTooWide
nothing_too_wide most i s bytes accepted read narrow report =
    let had = report.holds in
    let lists = report.lists in
    let kind = kind_of_lists i s read.table read.lawful read.sound lists report.closing in
    let here = over i s read.table read.lawful read.sound read.suited bytes (AllByRecursion (IsNarrowList most i.table)) lists report.closing narrow in
    let all = had.2.1.made.given in
    let proves = given_proved most i.table s.desks lists in
    let given = given_are_proved (kind_over i s lists) (IsGivenEntry most i.table s.desks lists) proves had.0 had.2.0 had.2.1 in
    let same : accepted ≡ accepted_of (kind_over i s lists) had.2.0 = one_headed_count header_text (kind_over i s lists) kind header_is_utf8 bytes accepted (accepted_of (kind_over i s lists) had.2.0) (had.0, had.1, had.2.2.proved) (had.0, had.1, given) in
    let none = counts most i.table s.desks lists here 0 had.2.0 all in
    let due = had.2.1.all_due in (
      ap (λ (x : Accepted). x.wide) same ∙ none,
      record {
        lists = lists;
        closing = report.closing;
        holds = (had.0, had.1, (had.2.0, had.2.1.text_is, due, each_by (IsGivenEntry most i.table s.desks lists) (Concludes i.table s.desks lists) (λ place x may. (narrow_entry most i.table s.desks lists here place x may, kind.proved_is_true place x (proves place x may))) 0 had.2.0 all));
      },
    )
