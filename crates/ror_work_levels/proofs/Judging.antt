-- What a check of a report comes to, by its steps.
use Rattle.std.proofs.Common.{◌∷◌, ◌+◌, ◌≡◌, ℕ, ◌<◌, ◌≤◌, List, length, Ok, Err, refl, inl, inr, subst, arith}
use Rattle.std.proofs.lemmas.Bool.{lt-ltb}
use Rattle.ror_statement.specs.declared.statement.Numbered.{Numbered}
use Rattle.ror_statement.specs.declared.statement.Statement.{Statement}
use Rattle.ror_table.specs.Table.{DecisionTable, IsTable}
use Rattle.ror_value.specs.declared.input.Input.{Input}
use Rattle.ror_value.specs.Over.{IsLawfulIn}
use Rattle.ror_session.specs.declared.session.Session.{Session}
use Rattle.ror_session.specs.Sound.{IsSound}
use Rattle.ror_bench.specs.declared.report.Accepted.{Accepted}
use Rattle.ror_bench.specs.declared.report.Reason.TheVariants as reasons
use Rattle.ror_bench.specs.declared.report.ReportError.{ReportError}
use Rattle.ror_bench.specs.declared.report.ReportError.TheVariants as report_errors
use Rattle.ror_bench.specs.declared.report.TheConstants.{MOST_REPORT_BYTES}
use Rattle.ror_bench.specs.Reports.{IfRejected, HoldsNoMemory}
use Rattle.ror_confidence.specs.declared.fault.LevelsFault.{LevelsFault}
use Rattle.ror_confidence.specs.declared.fault.LevelsFault.TheVariants as levels_faults
use Rattle.ror_confidence.specs.declared.levels.Levels.{Levels}
use Rattle.ror_confidence.specs.declared.read.TheConstants.{MOST_LEVELS_BYTES}
use Rattle.ror_confidence.specs.Levels.{level_lists}
use Rattle.ror_confidence.specs.Reading.{levels_of}
use Rattle.ror_spans.specs.declared.entry.Entry.{Entry}
use Rattle.ror_spans.specs.Text.{header_text}
use Rattle.ror_entries.specs.declared.check.EntryFault.{EntryFault}
use Rattle.ror_entries.specs.declared.check.EntryFault.TheVariants as entry_faults
use Rattle.ror_entries.specs.Steps.{IfRefused}
use Rattle.ror_entries.specs.Headed.{IsAcceptedHeaded, IsRejectedHeaded}
use Rattle.ror_entries.proofs.HeadedLemmas.{headed_is_accepted}
use Rattle.ror_frame.specs.declared.stop.Refusal.{Refusal}
use Rattle.ror_frame.specs.declared.stop.Refusal.TheVariants as refusals
use Rattle.ror_frame.specs.declared.stop.Stop.{Stop}
use Rattle.ror_frame.specs.declared.stop.Stop.TheVariants as stops
use Rattle.ror_frame.specs.States.{ShelfState, SinkState}
use Rattle.ror_frame.specs.Stops.{FilePlace, Outcome, last, stop_at_report}
use Rattle.ror_frame.specs.Courses.{Course, IsFetch, IsTooLong, IsWork, ReadAs}
use Rattle.ror_frame.specs.Courses as Courses
use Rattle.ror_frame.proofs.CourseLemmas.{went_on}
use Rattle.ror_work_levels.specs.Entries.{span_kind, IsOnPairAt, RefusesFor, RefusesEntry}
use Rattle.ror_work_levels.specs.Entries as entry_words
use Rattle.ror_work_levels.specs.Suiting.{AreFit, IsStanding}
use Rattle.ror_work_levels.specs.Steps.{ProvesOver, RejectsOver, ReadsOver, RefusesOver}
use Rattle.ror_work_levels.specs.Levels as commands
use Rattle.ror_work_levels.specs.Levels.{ProvesSpans, IsAcceptedSpans, RefusesSpans, ReadsLevels, RefusesLevels}
use Rattle.ror_work_levels.proofs.LevelCourses.{kind_of}

-- ---- an entry

pub refused_on : (t : DecisionTable) (lists : List (List Statement)) (place : ℕ) (x : Entry) (e : EntryFault) → IsOnPairAt t place x → IfRefused (RefusesFor t lists x) e → IfRefused (RefusesEntry t lists place x) e
refused_on t lists place x (entry_faults.Refused reason) on h = entry_words.at_fault on h
refused_on t lists place x entry_faults.Memory on h = tt

-- ---- the bytes of a report

pub long_report : (t : DecisionTable) (lists : List (List Statement)) (bytes : List ℕ) (r : Refusal) → IsTooLong MOST_REPORT_BYTES (refusals.Rejected (record { block = 0; reason = reasons.TooLong })) bytes r → RejectsOver t lists bytes r
long_report t lists bytes r long = (record { block = 0; reason = reasons.TooLong }, long.0, inl (long.1, refl))

module _ (t : DecisionTable) (lists : List (List Statement)) (bytes : List ℕ) (few : length bytes ≤ MOST_REPORT_BYTES) where
  pub report_refused : (e : ReportError) → IfRejected (IsRejectedHeaded header_text (span_kind t lists) bytes) e → HoldsNoMemory e → ReadAs {A = Accepted} last (ProvesOver t lists) (RejectsOver t lists) bytes (Err (stop_at_report e))
  report_refused (report_errors.Rejected r) why pure = (refl, pure, (r, refl, inr (few, why)))
  report_refused report_errors.Memory why pure = tt

  pub report_proved : (x : Accepted) → IsAcceptedHeaded header_text (span_kind t lists) bytes x → ProvesOver t lists bytes x
  report_proved x accepted = (few, (accepted.0, accepted.1, accepted.2.proved))

-- ---- of the lists of the levels

module _ (i : Input) (s : Session) (levels : Levels) (standing : List Numbered) (stands : IsStanding i s standing) (t : DecisionTable) (same : t ≡ i.table) where
  pub proves_spans : (bytes : List ℕ) (x : Accepted) → ProvesOver t (level_lists standing levels) bytes x → ProvesSpans i s levels bytes x
  proves_spans bytes x p =
      let q = subst (λ (u : DecisionTable). ProvesOver u (level_lists standing levels) bytes x) same p in
      (q.0, record { standing = standing; stands = stands; holds = q.1 })

  pub rejects_spans : (bytes : List ℕ) (r : Refusal) → RejectsOver t (level_lists standing levels) bytes r → RefusesSpans i s levels bytes r
  rejects_spans bytes r p =
      let q = subst (λ (u : DecisionTable). RejectsOver u (level_lists standing levels) bytes r) same p in (
        q.0,
        q.1,
        elim q.2 [
          | inl long ↦ commands.too_long long.0 long.1
          | inr at ↦ commands.at_fault at.0 (record { standing = standing; stands = stands; holds = at.1 })
        ],
      )

-- what is proved over a lawful input is true
pub accepted_too : (i : Input) (s : Session) (levels : Levels) (bytes : List ℕ) (x : Accepted) → IsTable i.table → IsLawfulIn i.table i.opening → IsSound s → AreFit s.lines → ProvesSpans i s levels bytes x → IsAcceptedSpans i s levels bytes x
accepted_too i s levels bytes x table lawful sound fit p =
    let a = p.1 in
    record { standing = a.standing; stands = a.stands; holds = headed_is_accepted header_text (span_kind i.table (level_lists a.standing levels)) (kind_of i s lawful sound fit table levels a.standing a.stands) bytes x a.holds }

-- ---- the bytes of the levels

too_many : (standing : List Numbered) (bytes : List ℕ) → MOST_LEVELS_BYTES < length bytes → levels_of standing bytes ≡ Err levels_faults.TooLong
unfolding levels_of
too_many standing bytes more = rw (lt-ltb MOST_LEVELS_BYTES (length bytes) more) refl

pub long_levels : (standing : List Numbered) (bytes : List ℕ) (r : Refusal) → IsTooLong MOST_LEVELS_BYTES (refusals.BadLevels levels_faults.TooLong) bytes r → RefusesOver standing bytes r
long_levels standing bytes r long = (levels_faults.TooLong, long.0, too_many standing bytes long.1)

pub reads_levels : (i : Input) (s : Session) (standing : List Numbered) → IsStanding i s standing → (bytes : List ℕ) (levels : Levels) → ReadsOver standing bytes levels → ReadsLevels i s bytes levels
reads_levels i s standing stands bytes levels read = (standing, stands, read)

pub refuses_levels : (i : Input) (s : Session) (standing : List Numbered) → IsStanding i s standing → (bytes : List ℕ) (r : Refusal) → RefusesOver standing bytes r → RefusesLevels i s bytes r
refuses_levels i s standing stands bytes r refused = (refused.0, refused.1, standing, stands, refused.2)

-- ---- steps of the work

-- what was read may be said in other words
abbrev pub read_as_well : {A : Type 0} (name : List ℕ) (place : FilePlace) (Had Reads : List ℕ → A → Type 0) (Refused Refuses : List ℕ → Refusal → Type 0) (a b : ShelfState) (x : A) → ((bytes : List ℕ) → Had bytes x → Reads bytes x) → IsFetch name place Had Refused a b (Ok x) → IsFetch name place Reads Refuses a b (Ok x)
read_as_well {A} name place Had Reads Refused Refuses a b x weaker fetch = record {
  never_falls = fetch.never_falls;
  told_stays = fetch.told_stays;
  counted = fetch.counted;
  missing = λ lacks. absurd (let p = fetch.missing lacks in cc);
  fetched = (fetch.fetched.0, fetch.fetched.1, fetch.fetched.2, weaker fetch.fetched.1 fetch.fetched.3);
}

-- and the work went on
pub went_on_as : {A : Type 0} (name : List ℕ) (place : ℕ) (names : List (List ℕ)) (at : FilePlace) (Had Reads : List ℕ → A → Type 0) (Refused Refuses : List ℕ → Refusal → Type 0) (next : List ℕ → A → Course) (a b c : ShelfState) (old new : SinkState) (x : A) (outcome : Outcome) → ((bytes : List ℕ) → Had bytes x → Reads bytes x) → (fetched : IsFetch name at Had Refused a b (Ok x)) → IsWork (place + 1) names (next fetched.fetched.1 x) b c old new outcome → IsWork place (name ∷ names) (Courses.fetch A name Reads Refuses next) a c old new outcome
went_on_as {A} name place names at Had Reads Refused Refuses next a b c old new x outcome weaker fetched went =
    went_on name place names at Reads Refuses next a b c old new x outcome (read_as_well name at Had Reads Refused Refuses a b x weaker fetched) went
