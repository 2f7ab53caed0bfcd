-- What an entry of a report of spans says of the pair at its place, over the lists of the levels.
use Rattle.std.specs.Prelude.{◌≡◌, ◌≢◌, ◌≤◌, ◌⊎◌, ℕ, List, length, slice_get, Some, true}
use Rattle.ror_text.specs.FirstFault.{IsFirst}
use Rattle.ror_statement.specs.declared.statement.Statement.{Statement}
use Rattle.ror_statement.specs.declared.question.Question.{Question}
use Rattle.ror_statement.specs.declared.question.Question.TheVariants.{Consistent, Necessary, Possible}
use Rattle.ror_table.specs.Table.{DecisionTable}
use Rattle.ror_check.specs.Proof.{is_wide}
use Rattle.ror_bench.specs.declared.bench.Passed.{Passed}
use Rattle.ror_bench.specs.declared.report.Reason.{Reason}
use Rattle.ror_bench.specs.declared.report.Reason.TheVariants as reasons
use Rattle.ror_confidence.specs.declared.fault.SpanCheckFault.{SpanCheckFault}
use Rattle.ror_confidence.specs.declared.fault.SpanCheckFault.TheVariants as faults
use Rattle.ror_confidence.specs.declared.span.LevelAnswer.{LevelAnswer}
use Rattle.ror_confidence.specs.declared.span.Span.{Span}
use Rattle.ror_confidence.specs.Faults.{FailsSpan, IsEarlierSpanFault}
use Rattle.ror_confidence.specs.Finding.{IsWideAtLevel}
use Rattle.ror_confidence.specs.Proof.{IsProvedSpan, IsSpanWithin}
use Rattle.ror_confidence.specs.Spans.{IsSpan}
use Rattle.ror_spans.specs.declared.entry.Entry.{Entry}
use Rattle.ror_spans.specs.declared.entry.Entry.TheVariants as entries
use Rattle.ror_spans.specs.Text.{entry_text, IsPrintableEntry}
use Rattle.ror_spans.specs.EntryLaws.{IsEnded}
use Rattle.ror_spans.specs.Reading.{entry_at}
use Rattle.ror_entries.specs.Kind.{Kind}
use Rattle.ror_entries.specs.Pairs.{pairs_of}

abbrev pub pair_of : Entry → ℕ × ℕ
pair_of (entries.Known a b span) = (a, b)
pair_of (entries.Wide a b found) = (a, b)

-- the entry is on the pair at this place
abbrev pub IsOnPairAt : DecisionTable → ℕ → Entry → Type 0
IsOnPairAt t place x = slice_get (pairs_of t) place ≡ Some (pair_of x)

-- What an entry may say at a width: the span of the pair, proved, of which no number passes most; or an answer that is too wide,
-- on which the span depends.
abbrev pub IsGivenSpan : ℕ → DecisionTable → List (List Statement) → Entry → Type 0
IsGivenSpan most t lists (entries.Known a b span) = IsProvedSpan t lists a b span × IsSpanWithin most span
IsGivenSpan most t lists (entries.Wide a b found) = IsWideAtLevel most t lists a b found

abbrev pub IsGivenEntry : ℕ → DecisionTable → List (List Statement) → ℕ → Entry → Type 0
IsGivenEntry most t lists place x = IsOnPairAt t place x × IsGivenSpan most t lists x

-- it is asked on the span of the pair: whether statements contradict each other, or whether one of the two preferences holds
abbrev pub IsOnSpan : ℕ → ℕ → Question → Type 0
IsOnSpan a b q = (q ≡ Consistent) ⊎ (q ≡ Necessary a b) ⊎ (q ≡ Possible a b)

-- the answer is too wide, to a question on the span of the pair, at one of so many levels
pub record IsWideForm (n a b : ℕ) (x : LevelAnswer) : Type 0 where
  pub from_first : 1 ≤ x.level
  pub to_last : x.level ≤ n
  pub wide : is_wide x.answer.verdict ≡ true
  pub asked : IsOnSpan a b x.answer.question

-- the span has its proof; of what is too wide nothing else is asked
abbrev pub IsProvedFor : DecisionTable → List (List Statement) → Entry → Type 0
IsProvedFor t lists (entries.Known a b span) = IsProvedSpan t lists a b span
IsProvedFor t lists (entries.Wide a b found) = IsWideForm (length lists) a b found

abbrev pub IsProvedEntry : DecisionTable → List (List Statement) → ℕ → Entry → Type 0
IsProvedEntry t lists place x = IsOnPairAt t place x × IsProvedFor t lists x

-- the levels of the span are those of the pair over all value functions; what is too wide says nothing
abbrev pub IsTrueEntry : DecisionTable → List (List Statement) → Entry → Type 0
IsTrueEntry t lists (entries.Known a b span) = IsSpan t lists a b span.contradictory span.necessary span.possible
IsTrueEntry t lists (entries.Wide a b found) = Unit {0}

-- as a reason of a report
abbrev pub reason_of : SpanCheckFault → Reason
reason_of (faults.Answer k fault) = reasons.Answer k fault
reason_of _ = reasons.WrongBlock

-- the reason is that of the first fault of the span
abbrev pub RefusesSpan : DecisionTable → List (List Statement) → ℕ → ℕ → Span → Reason → Type 0
RefusesSpan t lists a b span reason = (fault : SpanCheckFault)
    × IsFirst (FailsSpan t lists a b span) IsEarlierSpanFault fault × (reason ≡ reason_of fault)

-- why an entry is refused for its pair: a span for its first fault, and what is too wide for another form
abbrev pub RefusesFor : DecisionTable → List (List Statement) → Entry → Reason → Type 0
RefusesFor t lists (entries.Known a b span) reason = RefusesSpan t lists a b span reason
RefusesFor t lists (entries.Wide a b found) reason = (IsWideForm (length lists) a b found → ⊥)
    × (reason ≡ reasons.WrongBlock)

-- why an entry is refused at a place: it is on another pair; or else for its first fault
pub data RefusesEntry (t : DecisionTable) (lists : List (List Statement)) (place : ℕ) (x : Entry) (reason : Reason) : Type 0 where
  other_pair : (IsOnPairAt t place x → ⊥) → reason ≡ reasons.WrongBlock → RefusesEntry t lists place x reason
  at_fault : IsOnPairAt t place x → RefusesFor t lists x reason → RefusesEntry t lists place x reason

-- a span counts its answers, and what is too wide one
abbrev pub entry_passed : Entry → Passed
entry_passed (entries.Known a b span) = record { answers = length span.proof; wide = 0 }
entry_passed (entries.Wide a b found) = record { answers = 0; wide = 1 }

-- the entries of a report of spans over the lists of levels
abbrev pub span_kind : DecisionTable → List (List Statement) → Kind Entry
span_kind t lists = record {
  text = entry_text t;
  IsPrintable = IsPrintableEntry t;
  MayFollow = IsEnded;
  reads = entry_at t;
  count = length (pairs_of t);
  IsProved = IsProvedEntry t lists;
  Refuses = RefusesEntry t lists;
  passed = entry_passed;
  IsTrue = λ place x. IsTrueEntry t lists x;
}
