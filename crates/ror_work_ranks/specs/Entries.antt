-- What an entry of a report of ranks says of the desk at its place, over the desk's list.
use Rattle.std.specs.Prelude.{◌≡◌, ◌≢◌, ℕ, ◌-◌, List, length, slice_get, Some}
use Rattle.std.specs.List.{count_by}
use Rattle.ror_text.specs.FirstFault.{IsFirst}
use Rattle.ror_statement.specs.declared.statement.Statement.{Statement}
use Rattle.ror_table.specs.Table.{DecisionTable}
use Rattle.ror_system.specs.Acceptance.{AreAcceptedMultipliers, FailsMultipliers, IsEarlierTest}
use Rattle.ror_system.specs.declared.reject.Reject.{Reject}
use Rattle.ror_value.specs.Meaning.{IsContradictory}
use Rattle.ror_check.specs.Proof.{base_system}
use Rattle.ror_bench.specs.declared.bench.Passed.{Passed}
use Rattle.ror_bench.specs.declared.report.Reason.{Reason}
use Rattle.ror_bench.specs.declared.report.Reason.TheVariants as reasons
use Rattle.ror_ranks.specs.declared.extreme.Extreme.{Extreme}
use Rattle.ror_ranks_text.specs.declared.entry.Entry.{Entry}
use Rattle.ror_ranks_text.specs.declared.entry.EntryBody.{EntryBody}
use Rattle.ror_ranks_text.specs.declared.entry.EntryBody.TheVariants as bodies
use Rattle.ror_ranks.specs.declared.fault.RanksFault.{RanksFault}
use Rattle.ror_ranks.specs.declared.fault.RanksFault.TheVariants as faults
use Rattle.ror_ranks.specs.Proof.{is_wide, AreProvedRanks, AreTrueRanks}
use Rattle.ror_ranks.specs.Faults.{FailsRanks, IsEarlierRanksFault}
use Rattle.ror_ranks_text.specs.Given.{IsGivenBody}
use Rattle.ror_ranks_text.specs.Text.{entry_text, IsPrintableEntry}
use Rattle.ror_ranks_text.specs.Reading.{entry_at}
use Rattle.ror_entries.specs.Kind.{Kind}

-- ---- what a body says of a list

-- it has its proof, or is too wide
abbrev pub IsProvedBody : DecisionTable → List Statement → EntryBody → Type 0
IsProvedBody t list (bodies.Ranks xs) = AreProvedRanks t list xs
IsProvedBody t list (bodies.Contradiction m) = AreAcceptedMultipliers (base_system t list) m.weak m.strict
IsProvedBody t list (bodies.BaseWide note) = Unit {0}

-- What it says is true of all value functions: each alternative has its best and its worst rank, which lie where it says, and where the
-- ends are the same are these ranks; or no function is compatible with the list. What is too wide says nothing.
abbrev pub IsTrueBody : DecisionTable → List Statement → EntryBody → Type 0
IsTrueBody t list (bodies.Ranks xs) = AreTrueRanks t list xs
IsTrueBody t list (bodies.Contradiction m) = IsContradictory t list
IsTrueBody t list (bodies.BaseWide note) = Unit {0}

-- as a reason of a report; that not each alternative has both ranks in its place is that of a wrong block
abbrev pub ranks_reason : RanksFault → Reason
ranks_reason (faults.Extreme k fault) = reasons.Rank k fault
ranks_reason _ = reasons.WrongBlock

-- Why it is refused: ranks or multipliers for the first test that they fail. What is too wide is never refused.
abbrev pub RefusesBody : DecisionTable → List Statement → EntryBody → Reason → Type 0
RefusesBody t list (bodies.Ranks xs) reason = (fault : RanksFault)
    × IsFirst (FailsRanks t list xs) IsEarlierRanksFault fault × (reason ≡ ranks_reason fault)
RefusesBody t list (bodies.Contradiction m) reason = (reject : Reject)
    × IsFirst (FailsMultipliers (base_system t list) m.weak m.strict) IsEarlierTest reject
    × (reason ≡ reasons.Contradiction reject)
RefusesBody t list (bodies.BaseWide note) reason = ⊥

-- each extreme rank counts as one answer that is proved, or as one that is too wide; that a list is contradictory, or too wide to say,
-- as one of all
abbrev pub body_passed : EntryBody → Passed
body_passed (bodies.Ranks xs) = record {
  answers = length xs - count_by (λ x. is_wide x.said) xs;
  wide = count_by (λ x. is_wide x.said) xs;
}
body_passed (bodies.Contradiction m) = record { answers = 1; wide = 0 }
body_passed (bodies.BaseWide note) = record { answers = 0; wide = 1 }

-- ---- entries

-- this holds of the name and of the list of the desk at a place
pub record OfDeskAt (names : List (List ℕ)) (lists : List (List Statement)) (place : ℕ) (name : List ℕ) (P : List Statement → Type 0) : Type 0 where
  pub list : List Statement
  pub name_there : slice_get names place ≡ Some name
  pub list_there : slice_get lists place ≡ Some list
  pub holds : P list

-- the entry is of the desk at its place, with a body that may be given at a width; that is proved; that is true
abbrev pub IsGivenEntry : ℕ → DecisionTable → List (List ℕ) → List (List Statement) → ℕ → Entry → Type 0
IsGivenEntry most t names lists place x = OfDeskAt names lists place x.desk (λ list. IsGivenBody most t list x.body)

abbrev pub IsProvedEntry : DecisionTable → List (List ℕ) → List (List Statement) → ℕ → Entry → Type 0
IsProvedEntry t names lists place x = OfDeskAt names lists place x.desk (λ list. IsProvedBody t list x.body)

abbrev pub IsTrueEntry : DecisionTable → List (List ℕ) → List (List Statement) → ℕ → Entry → Type 0
IsTrueEntry t names lists place x = OfDeskAt names lists place x.desk (λ list. IsTrueBody t list x.body)

-- why it is refused at its place: it is of another desk; or else for its body
pub data RefusesEntry (t : DecisionTable) (names : List (List ℕ)) (lists : List (List Statement)) (place : ℕ) (x : Entry) (reason : Reason) : Type 0 where
  other_desk : slice_get names place ≢ Some x.desk → reason ≡ reasons.WrongBlock
      → RefusesEntry t names lists place x reason
  at_fault : OfDeskAt names lists place x.desk (λ list. RefusesBody t list x.body reason)
      → RefusesEntry t names lists place x reason

-- the entries of a report of ranks, of desks with these names and lists
abbrev pub ranks_kind : DecisionTable → List (List ℕ) → List (List Statement) → Kind Entry
ranks_kind t names lists = record {
  text = entry_text t;
  IsPrintable = IsPrintableEntry t;
  MayFollow = λ x rest. Unit {0};
  reads = entry_at t;
  count = length names;
  IsProved = IsProvedEntry t names lists;
  Refuses = RefusesEntry t names lists;
  passed = λ x. body_passed x.body;
  IsTrue = IsTrueEntry t names lists;
}
