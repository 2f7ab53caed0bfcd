-- What a maker and a judge of a group's entries go by.
use Rattle.std.specs.Prelude.{◌≡◌, ℕ, ◌<◌, ◌≤◌, Bool, List, [], ◌∷◌, ◌++◌, length}
use Rattle.std.specs.List.{AllByRecursion, list_any}
use Rattle.ror_statement.specs.declared.statement.Statement.{Statement}
use Rattle.ror_table.specs.Table.{DecisionTable, IsTable}
use Rattle.ror_proof.specs.declared.answer.Answer.{Answer}
use Rattle.ror_check.specs.Proof.{is_wide}
use Rattle.ror_relation.specs.declared.decided.DecidedList.{DecidedList}
use Rattle.ror_statement.specs.declared.question.Question.TheVariants.{Necessary, Possible}
use Rattle.ror_given.specs.Answers.{IsGiven}
use Rattle.ror_relation.specs.DecidedLists.{IsDecidedList}
use Rattle.ror_group.specs.declared.judge.Judge.{Judge}
use Rattle.ror_group.specs.Proof.{IsJudgeIn}
use Rattle.ror_text.specs.FirstFault.{IsFirst}
use Rattle.ror_report.specs.Printing.{HasValidQuestion, HasNarrowVerdict}
use Rattle.ror_bench.specs.declared.report.Reason.{Reason}
use Rattle.ror_group.specs.declared.entry.Entry.{Entry}
use Rattle.ror_group.specs.Faults.{FailsPair, IsEarlierPairFault}
use Rattle.ror_group.specs.declared.fault.GroupFault.{GroupFault}
use Rattle.ror_group.specs.declared.fault.GroupFault.TheVariants as faults
use Rattle.ror_entries.specs.Pairs.{pairs_of}
use Rattle.ror_entries.specs.declared.check.EntryFault.{EntryFault}
use Rattle.ror_entries.specs.declared.check.EntryFault.TheVariants as entries
use Rattle.ror_work_group.specs.Entries.{reason_of}

-- a table, the lists of the desks, and what no number passes
pub record GroupMaking : Type 0 where
  pub table : DecisionTable
  pub lists : List (List Statement)
  pub most : ℕ

-- a table, the lists of the desks, and the bytes of a report
pub record GroupJudging : Type 0 where
  pub table : DecisionTable
  pub lists : List (List Statement)
  pub report : List ℕ

-- the pairs are those of the table, and each list is decided, with an engine for each
pub record IsMaking (t : DecisionTable) (pairs : List (ℕ × ℕ)) (lists : List DecidedList) (engines most : ℕ) : Type 0 where
  pub table : IsTable t
  pub pairs_are : pairs ≡ pairs_of t
  pub decided : AllByRecursion (IsDecidedList most t) lists
  pub engine_each : engines ≡ length lists
  pub few : length lists ≤ 64

-- the pairs are those of the table, and each judge is one over it
pub record IsJudging (t : DecisionTable) (pairs : List (ℕ × ℕ)) (judges : List Judge) : Type 0 where
  pub table : IsTable t
  pub pairs_are : pairs ≡ pairs_of t
  pub judges_are : AllByRecursion (IsJudgeIn t) judges
  pub few : length judges ≤ 64

-- the list's two answers on a pair were added, each one that may be given at the width
pub record HasBoth (most : ℕ) (t : DecisionTable) (list : List Statement) (a b : ℕ) (before now : List Answer) : Type 0 where
  pub necessary : Answer
  pub possible : Answer
  pub added : now ≡ before ++ necessary ∷ possible ∷ []
  pub necessary_given : IsGiven most t list (Necessary a b) necessary
  pub possible_given : IsGiven most t list (Possible a b) possible

-- an entry can be printed: its alternatives are of the table, its answers to valid questions, and their numbers those of reports
pub record IsWritable (t : DecisionTable) (x : Entry) : Type 0 where
  pub first : x.first < length t.alternatives
  pub second : x.second < length t.alternatives
  pub valid : AllByRecursion (HasValidQuestion t) x.answers
  pub narrow : AllByRecursion HasNarrowVerdict x.answers

-- one of the answers is too wide
abbrev pub has_wide : List Answer → Bool
has_wide xs = list_any (λ x. is_wide x.verdict) xs

-- the fault of an entry of which this is refused; want of memory is an answer of its own
abbrev pub refused_entry : GroupFault → EntryFault
refused_entry faults.Memory = entries.Memory
refused_entry fault = entries.Refused (reason_of fault)

-- the reason is that of the first fault of the answers and the words of an entry
pub record RefusesPair (t : DecisionTable) (lists : List (List Statement)) (x : Entry) (reason : Reason) : Type 0 where
  pub fault : GroupFault
  pub first : IsFirst (FailsPair t lists x.first x.second x.answers x.quartet) IsEarlierPairFault fault
  pub is : reason ≡ reason_of fault
