-- What an entry of a group's report says of the pair at its place, over the lists of the desks.
use Rattle.std.specs.Prelude.{◌≡◌, ℕ, List, length, slice_get, Some}
use Rattle.ror_text.specs.FirstFault.{IsFirst}
use Rattle.ror_statement.specs.declared.statement.Statement.{Statement}
use Rattle.ror_table.specs.Table.{DecisionTable}
use Rattle.ror_proof.specs.declared.answer.Answer.{Answer}
use Rattle.ror_check.specs.Proof.{IsWideOrTrue}
use Rattle.ror_given.specs.Answers.{IsGiven}
use Rattle.ror_bench.specs.Blocks.{answers_passed}
use Rattle.ror_bench.specs.declared.report.Reason.{Reason}
use Rattle.ror_bench.specs.declared.report.Reason.TheVariants as reasons
use Rattle.ror_group.specs.declared.entry.Entry.{Entry}
use Rattle.ror_group.specs.declared.fault.GroupFault.{GroupFault}
use Rattle.ror_group.specs.declared.fault.GroupFault.TheVariants as faults
use Rattle.ror_group.specs.Combining.{Asked, asked_on, InStep, combined}
use Rattle.ror_group.specs.Proof.{IsProvedPair}
use Rattle.ror_group.specs.Faults.{FailsPair, IsEarlierPairFault}
use Rattle.ror_group.specs.Group.{AreGroupAnswers}
use Rattle.ror_group.specs.Text.{entry_text, IsPrintableEntry}
use Rattle.ror_group.specs.Reading.{entry_at}
use Rattle.ror_entries.specs.Kind.{Kind}
use Rattle.ror_entries.specs.Pairs.{pairs_of}

-- the entry is on the pair at this place
abbrev pub IsOnPairAt : DecisionTable → ℕ → Entry → Type 0
IsOnPairAt t place x = slice_get (pairs_of t) place ≡ Some (x.first, x.second)

-- the answer may be given at a width, over the list of which it was asked
abbrev pub IsGivenFor : ℕ → DecisionTable → Asked → Answer → Type 0
IsGivenFor most t asked x = IsGiven most t asked.list asked.question x

-- On the pair at the place each desk answers whether the first is necessarily worth at least as much as the second, and whether
-- possibly, as may be answered at the width; the words are what these answers come to.
pub record IsGivenEntry (most : ℕ) (t : DecisionTable) (lists : List (List Statement)) (place : ℕ) (x : Entry) : Type 0 where
  pub pair : IsOnPairAt t place x
  pub answers : InStep (IsGivenFor most t) (asked_on x.first x.second lists) x.answers
  pub words : x.quartet ≡ combined x.answers

-- the same of answers that are too wide or have a proof
pub record IsProvedEntry (t : DecisionTable) (lists : List (List Statement)) (place : ℕ) (x : Entry) : Type 0 where
  pub pair : IsOnPairAt t place x
  pub proved : IsProvedPair t lists x.first x.second x.answers x.quartet

-- each answer that isn't too wide is true of all value functions that are compatible with the desk's list, and so is each word of
-- all desks' lists
pub record IsTrueEntry (t : DecisionTable) (lists : List (List Statement)) (x : Entry) : Type 0 where
  pub answers : InStep (λ q answer. IsWideOrTrue t q.list q.question answer.verdict) (asked_on x.first x.second lists) x.answers
  pub words : AreGroupAnswers t lists x.first x.second x.quartet

-- as a reason of a report; a wrong count and wrong words are those of a wrong block
abbrev pub reason_of : GroupFault → Reason
reason_of (faults.Answer k fault) = reasons.Answer k fault
reason_of _ = reasons.WrongBlock

-- why an entry is refused at a place: it is on another pair; or else for its first fault
pub data RefusesEntry (t : DecisionTable) (lists : List (List Statement)) (place : ℕ) (x : Entry) (reason : Reason) : Type 0 where
  other_pair : (IsOnPairAt t place x → ⊥) → reason ≡ reasons.WrongBlock → RefusesEntry t lists place x reason
  at_fault : (fault : GroupFault) → IsOnPairAt t place x
      → IsFirst (FailsPair t lists x.first x.second x.answers x.quartet) IsEarlierPairFault fault
      → reason ≡ reason_of fault → RefusesEntry t lists place x reason

-- the entries of a group's report over these lists
abbrev pub group_kind : DecisionTable → List (List Statement) → Kind Entry
group_kind t lists = record {
  text = entry_text t;
  IsPrintable = IsPrintableEntry t;
  MayFollow = λ x rest. Unit {0};
  reads = entry_at t;
  count = length (pairs_of t);
  IsProved = IsProvedEntry t lists;
  Refuses = RefusesEntry t lists;
  passed = λ x. answers_passed x.answers;
  IsTrue = λ place x. IsTrueEntry t lists x;
}
