-- Laws of reducts: what proves one shows that it is one; more statements keep what statements carry, so a reduct is least by
-- inclusion; and one function shows what no statement carries, and that no statement of a reduct can be spared.
use Rattle.std.specs.Prelude.{◌≡◌, ◌↔◌, ℕ, true, nat_eq, List, [], ℤ, slice_get, Some}
use Rattle.std.specs.List.{AllByRecursion}
use Rattle.std.specs.Set.{is_member}
use Rattle.ror_statement.specs.declared.statement.Numbered.{Numbered}
use Rattle.ror_statement.specs.declared.question.Question.{Question}
use Rattle.ror_statement.specs.declared.question.Conclusion.{Conclusion}
use Rattle.ror_statement.specs.declared.question.Conclusion.TheVariants.{Contradiction}
use Rattle.ror_statement.specs.Statements.{numbers_in, statements_in}
use Rattle.ror_statement.specs.Questions.{kind_of, property_of}
use Rattle.ror_table.specs.Table.{DecisionTable}
use Rattle.ror_value.specs.Over.{IsLawfulIn, IsAskedIn}
use Rattle.ror_value.specs.Meaning.{Answers, Has, IsCompatible, IsConsistent}
use Rattle.ror_proof.specs.declared.answer.Answer.{Answer}
use Rattle.ror_reason.specs.declared.fault.ReductFault.{ReductFault}
use Rattle.ror_reason.specs.declared.reducts.Reduct.{Reduct}
use Rattle.ror_reason.specs.Functions.{IsDeciding, IsBeside, IsAgainst}
use Rattle.ror_reason.specs.Reasons.{one_has, one_lacks, IsProvedSo}
use Rattle.ror_reason.specs.Reducts.{stated, without, RestsOnPart, IsReduct, IsProvedReduct}
use Rattle.ror_reason.specs.ReductFaults.{FailsReduct}

-- what proves a reduct of an answer that is true of the list shows that it is one
abbrev pub ProvedReductsAreTrue : Type 0
ProvedReductsAreTrue = (t : DecisionTable) (list : List Numbered) (q : Question)
    (c : Conclusion) (x : Reduct) → IsLawfulIn t (statements_in list) → IsAskedIn t q
    → Answers t (statements_in list) q c → IsProvedReduct t list q c x
    → IsReduct t list q c x.numbers

abbrev pub ProvedReductPassesEachTest : Type 0
ProvedReductPassesEachTest = (t : DecisionTable) (list : List Numbered) (q : Question)
    (c : Conclusion) (x : Reduct) (fault : ReductFault)
    → IsProvedReduct t list q c x → FailsReduct t list q c x fault → ⊥

-- ---- parts

-- each of the first numbers is among the second
abbrev pub AreAmong : List ℕ → List ℕ → Type 0
AreAmong ms ns = AllByRecursion (λ m. is_member nat_eq ns m ≡ true) ms

-- the part of all numbers states what the list states
abbrev pub AllNumbersStateAll : Type 0
AllNumbersStateAll = (list : List Numbered) → stated (numbers_in list) list ≡ statements_in list

-- What statements carry over a part is so over each greater part with which some function is compatible, and a contradiction
-- over each greater part.
pub record MoreStatementsKeep : Type 0 where
  pub answers : (t : DecisionTable) (list : List Numbered) (q : Question) (c : Conclusion)
      (ms ns : List ℕ) → RestsOnPart q c → AreAmong ms ns → IsConsistent t (stated ns list)
      → Answers t (stated ms list) q c → Answers t (stated ns list) q c
  pub contradictions : (t : DecisionTable) (list : List Numbered) (q : Question)
      (ms ns : List ℕ) → AreAmong ms ns
      → Answers t (stated ms list) q Contradiction → Answers t (stated ns list) q Contradiction

-- No part that lacks one of the reduct's statements, and has none besides, carries the answer. So of two reducts neither is
-- a part of the other, and an answer that needs no statement has the empty reduct alone.
pub record ReductsAreLeast : Type 0 where
  pub least : (t : DecisionTable) (list : List Numbered) (q : Question) (c : Conclusion)
      (ms ns : List ℕ) → IsReduct t list q c ns → AreAmong ms ns
      → (AreAmong ns ms → ⊥) → Answers t (stated ms list) q c → ⊥
  pub neither_within : (t : DecisionTable) (list : List Numbered) (q : Question)
      (c : Conclusion) (ms ns : List ℕ) → IsReduct t list q c ms
      → IsReduct t list q c ns → AreAmong ms ns → ms ≡ ns
  pub of_nothing : (t : DecisionTable) (list : List Numbered) (q : Question) (c : Conclusion)
      (ns : List ℕ) → RestsOnPart q c → Answers t (statements_in list) q c
      → Answers t [] q c → IsReduct t list q c ns ↔ (ns ≡ [])

-- ---- functions

-- In the proof of an answer that one function shows there stands such a function: it is compatible with the list, and has
-- what is asked of some one, or lacks what is asked of every one.
pub record OneFunctionDecides : Type 0 where
  pub has : (t : DecisionTable) (list : List Numbered) (q : Question) (c : Conclusion) (x : Answer)
      → IsLawfulIn t (statements_in list) → IsAskedIn t q → one_has (kind_of q) c ≡ true
      → IsProvedSo t list q c x → (w : List ℤ) × IsDeciding x w
      × IsCompatible t (statements_in list) w × Has t (statements_in list) w (property_of q)
  pub lacks : (t : DecisionTable) (list : List Numbered) (q : Question) (c : Conclusion) (x : Answer)
      → IsLawfulIn t (statements_in list) → IsAskedIn t q → one_lacks (kind_of q) c ≡ true
      → IsProvedSo t list q c x → (w : List ℤ) × IsDeciding x w
      × IsCompatible t (statements_in list) w × (Has t (statements_in list) w (property_of q) → ⊥)

-- In the answer beside each statement of a proved reduct there stands a function that is compatible with all other statements
-- of the part, and is against what is concluded.
abbrev pub AgainstEachStatementOneFunction : Type 0
AgainstEachStatementOneFunction = (t : DecisionTable) (list : List Numbered) (q : Question)
    (c : Conclusion) (x : Reduct) (k n : ℕ) (other : Answer) → IsLawfulIn t (statements_in list)
    → IsAskedIn t q → IsProvedReduct t list q c x → slice_get x.numbers k ≡ Some n
    → slice_get x.others k ≡ Some other → (w : List ℤ) × IsBeside c other w
    × IsCompatible t (stated (without n x.numbers) list) w
    × IsAgainst t (stated (without n x.numbers) list) q c w
