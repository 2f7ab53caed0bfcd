-- What an entry of a report of most discriminating functions says of the desk at its place, over the desk's list.
use Rattle.std.specs.Prelude.{◌≡◌, ◌≢◌, ◌⊎◌, ℕ, Bool, true, false, List, [], length, slice_get, Some, if◌then◌else◌, ℤ}
use Rattle.ror_text.specs.FirstFault.{IsFirst}
use Rattle.ror_statement.specs.declared.statement.Statement.{Statement}
use Rattle.ror_table.specs.Table.{DecisionTable}
use Rattle.ror_table.specs.Blocks.{tops}
use Rattle.ror_value.specs.Meaning.{IsContradictory}
use Rattle.ror_check.specs.Proof.{base_system}
use Rattle.ror_pivot.specs.declared.optimum.Optimum.{Optimum}
use Rattle.ror_pivot.specs.Optimality.{IsAcceptedOptimum}
use Rattle.ror_bench.specs.declared.bench.Passed.{Passed}
use Rattle.ror_bench.specs.declared.report.Reason.{Reason}
use Rattle.ror_bench.specs.declared.report.Reason.TheVariants as reasons
use Rattle.ror_discriminate.specs.declared.entry.Entry.{Entry}
use Rattle.ror_discriminate.specs.declared.entry.EntryBody.{EntryBody}
use Rattle.ror_discriminate.specs.declared.entry.EntryBody.TheVariants as bodies
use Rattle.ror_discriminate.specs.declared.fault.OptimalFault.{OptimalFault}
use Rattle.ror_discriminate.specs.declared.fault.ContradictionFault.{ContradictionFault}
use Rattle.ror_discriminate.specs.declared.fault.ContradictionFault.TheVariants as contradictions
use Rattle.ror_discriminate.specs.Contradictions.{IsShownContradictory, FailsContradiction, IsEarlierContradictionFault}
use Rattle.ror_discriminate.specs.Margin.{strict_comparisons, IsMarginOf, IsMostDiscriminating}
use Rattle.ror_discriminate.specs.Discriminating.{IsFound, IsRefuted, IsBaseWide, IsClimbWide}
use Rattle.ror_discriminate.specs.Faults.{FailsOptimal, IsEarlierOptimalFault}
use Rattle.ror_discriminate.specs.Text.{entry_text, IsPrintableEntry}
use Rattle.ror_discriminate.specs.Reading.{entry_at}
use Rattle.ror_entries.specs.Kind.{Kind}

-- ---- what a body says of a list

-- the least margin of the optimum's solution and the ideal value are these
abbrev pub HasMargin : DecisionTable → List Statement → ℤ → ℤ → Optimum → Type 0
HasMargin t list margin total x = IsMarginOf t list x.solution.steps (record { least = margin; total = total })

-- It may be given where no number passes most: an optimum of the list's system with the margin of its solution; that the list says
-- nothing strictly; that it is contradictory; or the first number that is too wide, on one of the two paths of its system.
abbrev pub IsGivenBody : ℕ → DecisionTable → List Statement → EntryBody → Type 0
IsGivenBody most t list (bodies.Best margin total x) = IsFound most t list x × HasMargin t list margin total x
IsGivenBody most t list bodies.NoStrictRow = strict_comparisons list ≡ []
IsGivenBody most t list (bodies.Contradiction m) = IsRefuted most t list m
IsGivenBody most t list (bodies.BaseWide note) = IsBaseWide most t list note
IsGivenBody most t list (bodies.ClimbWide note) = IsClimbWide most t list note

-- it has its proof, or is too wide
abbrev pub IsProvedBody : DecisionTable → List Statement → EntryBody → Type 0
IsProvedBody t list (bodies.Best margin total x) =
    IsAcceptedOptimum (base_system t list) (tops t) x × HasMargin t list margin total x
IsProvedBody t list bodies.NoStrictRow = strict_comparisons list ≡ []
IsProvedBody t list (bodies.Contradiction m) = IsShownContradictory t list m
IsProvedBody t list (bodies.BaseWide note) = Unit {0}
IsProvedBody t list (bodies.ClimbWide note) = Unit {0}

-- What it says is true of all value functions: the solution is a function that is compatible with the list and discriminates most,
-- and this is its margin; the list says nothing strictly; no function is compatible with it. What is too wide says nothing.
abbrev pub IsTrueBody : DecisionTable → List Statement → EntryBody → Type 0
IsTrueBody t list (bodies.Best margin total x) =
    IsMostDiscriminating t list x.solution.steps × HasMargin t list margin total x
IsTrueBody t list bodies.NoStrictRow = strict_comparisons list ≡ []
IsTrueBody t list (bodies.Contradiction m) = IsContradictory t list
IsTrueBody t list (bodies.BaseWide note) = Unit {0}
IsTrueBody t list (bodies.ClimbWide note) = Unit {0}

-- as a reason of a report; that nothing is said strictly is that of a wrong block
abbrev pub contradiction_reason : ContradictionFault → Reason
contradiction_reason (contradictions.Multipliers reject) = reasons.Contradiction reject
contradiction_reason _ = reasons.WrongBlock

-- Why it is refused: an optimum for the first test that it fails, or, where it fails none, for another margin; that the list says
-- nothing strictly, where it does; a contradiction for the first test that it fails, of which the first is that the list says
-- something strictly. What is too wide is never refused.
abbrev pub RefusesBody : DecisionTable → List Statement → EntryBody → Reason → Type 0
RefusesBody t list (bodies.Best margin total x) reason =
    ((fault : OptimalFault) × IsFirst (FailsOptimal (base_system t list) (tops t) x) IsEarlierOptimalFault fault
    × (reason ≡ reasons.Optimal fault))
    ⊎ (IsAcceptedOptimum (base_system t list) (tops t) x × (HasMargin t list margin total x → ⊥)
    × (reason ≡ reasons.WrongBlock))
RefusesBody t list bodies.NoStrictRow reason = (strict_comparisons list ≢ []) × (reason ≡ reasons.WrongBlock)
RefusesBody t list (bodies.Contradiction m) reason = (fault : ContradictionFault)
    × IsFirst (FailsContradiction t list m) IsEarlierContradictionFault fault
    × (reason ≡ contradiction_reason fault)
RefusesBody t list (bodies.BaseWide note) reason = ⊥
RefusesBody t list (bodies.ClimbWide note) reason = ⊥

abbrev pub is_wide_body : EntryBody → Bool
is_wide_body (bodies.BaseWide note) = true
is_wide_body (bodies.ClimbWide note) = true
is_wide_body _ = false

-- ---- entries

-- this holds of the name and of the list of the desk at a place
pub record OfDeskAt (names : List (List ℕ)) (lists : List (List Statement)) (place : ℕ) (name : List ℕ) (P : List Statement → Type 0) : Type 0 where
  pub list : List Statement
  pub name_there : slice_get names place ≡ Some name
  pub list_there : slice_get lists place ≡ Some list
  pub holds : P list

-- the entry is of the desk at its place, with a body that may be given at a width; that is proved
abbrev pub IsGivenEntry : ℕ → DecisionTable → List (List ℕ) → List (List Statement) → ℕ → Entry → Type 0
IsGivenEntry most t names lists place x = OfDeskAt names lists place x.desk (λ list. IsGivenBody most t list x.body)

abbrev pub IsProvedEntry : DecisionTable → List (List ℕ) → List (List Statement) → ℕ → Entry → Type 0
IsProvedEntry t names lists place x = OfDeskAt names lists place x.desk (λ list. IsProvedBody t list x.body)

abbrev pub IsTrueEntry : DecisionTable → List (List ℕ) → List (List Statement) → ℕ → Entry → Type 0
IsTrueEntry t names lists place x = OfDeskAt names lists place x.desk (λ list. IsTrueBody t list x.body)

-- why it is refused at its place: it is of another desk; or else for its body
pub data RefusesEntry (t : DecisionTable) (names : List (List ℕ)) (lists : List (List Statement)) (place : ℕ) (x : Entry) (reason : Reason) : Type 0 where
  other_desk : slice_get names place ≢ Some x.desk → reason ≡ reasons.WrongBlock
      → RefusesEntry t names lists place x reason
  at_fault : OfDeskAt names lists place x.desk (λ list. RefusesBody t list x.body reason)
      → RefusesEntry t names lists place x reason

-- an entry counts as one answer that is proved, or as one that is too wide
abbrev pub entry_passed : Entry → Passed
entry_passed x = if is_wide_body x.body then record { answers = 0; wide = 1 } else record { answers = 1; wide = 0 }

-- the entries of a report of most discriminating functions, of desks with these names and lists
abbrev pub best_kind : DecisionTable → List (List ℕ) → List (List Statement) → Kind Entry
best_kind t names lists = record {
  text = entry_text;
  IsPrintable = IsPrintableEntry;
  MayFollow = λ x rest. Unit {0};
  reads = entry_at;
  count = length names;
  IsProved = IsProvedEntry t names lists;
  Refuses = RefusesEntry t names lists;
  passed = entry_passed;
  IsTrue = IsTrueEntry t names lists;
}
