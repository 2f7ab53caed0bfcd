-- What is given on a pair can be printed.
use Rattle.std.proofs.Common.{ℕ, ◌<◌, map, List, [], ◌∷◌, length, sym, subst}
use Rattle.std.specs.List.{AllByRecursion}
use Rattle.ror_statement.specs.declared.statement.Statement.{Statement}
use Rattle.ror_statement.specs.declared.question.Question.{Question}
use Rattle.ror_statement.specs.declared.question.Question.TheVariants.{Necessary, Possible}
use Rattle.ror_pivot.specs.declared.note.Bits.{Bits}
use Rattle.ror_pivot.specs.Answers.{most_of}
use Rattle.ror_table.specs.Table.{DecisionTable, IsTable}
use Rattle.ror_value.specs.Over.{IsLawfulIn, IsAskedIn}
use Rattle.ror_proof.specs.declared.answer.Answer.{Answer}
use Rattle.ror_proof.specs.Text.{IsPrintable}
use Rattle.ror_report.specs.Printing.{HasValidQuestion, HasNarrowVerdict}
use Rattle.ror_given.specs.Answers.{IsGiven}
use Rattle.ror_relation.specs.declared.decided.DecidedList.{DecidedList}
use Rattle.ror_relation.specs.DecidedLists.{IsDecidedList, statements_of}
use Rattle.ror_relation.proofs.Printing.{printable, given_printable}
use Rattle.ror_group.specs.Combining.{asked_on, InStep}
use Rattle.ror_work_group.specs.Entries.{IsGivenFor}

-- what holds of each given answer holds of all on a pair
each_answer : (P : Answer → Type 0) (most : ℕ) (t : DecisionTable) (a b : ℕ) → ((list : List Statement) (q : Question) (x : Answer) → IsLawfulIn t list → IsAskedIn t q → IsGiven most t list q x → P x) → IsAskedIn t (Necessary a b) → IsAskedIn t (Possible a b) → (lists : List (List Statement)) (xs : List Answer) → AllByRecursion (IsLawfulIn t) lists → InStep (IsGivenFor most t) (asked_on a b lists) xs → AllByRecursion P xs
each_answer P most t a b by n p [] [] lawful h = tt
each_answer P most t a b by n p [] (x ∷ xs) lawful h = absurd h
each_answer P most t a b by n p (l ∷ ls) [] lawful h = absurd h
each_answer P most t a b by n p (l ∷ ls) (x ∷ []) lawful h = absurd h.1
each_answer P most t a b by n p (l ∷ ls) (x ∷ y ∷ xs) lawful h =
    (by l (Necessary a b) x lawful.0 n h.0, (by l (Possible a b) y lawful.0 p h.1.0, each_answer P most t a b by n p ls xs lawful.1 h.1.1))

-- the lists of decided ones are lawful
pub lawful_decided : (most : ℕ) (t : DecisionTable) (ds : List DecidedList) → AllByRecursion (IsDecidedList most t) ds → AllByRecursion (IsLawfulIn t) (map statements_of ds)
lawful_decided most t [] all = tt
lawful_decided most t (d ∷ ds) all = (all.0.lawful, lawful_decided most t ds all.1)

module _ (bits : Bits) (t : DecisionTable) (a b : ℕ) (table : IsTable t) (first : a < length t.alternatives) (second : b < length t.alternatives) (lists : List (List Statement)) (xs : List Answer) (lawful : AllByRecursion (IsLawfulIn t) lists) (given : InStep (IsGivenFor (most_of bits) t) (asked_on a b lists) xs) where
  pub answers_printable : AllByRecursion (IsPrintable t) xs
  answers_printable = each_answer (IsPrintable t) (most_of bits) t a b (λ list q x lawful asked given. given_printable bits t list q table lawful asked x given) (first, second) (first, second) lists xs lawful given

  pub answers_valid : AllByRecursion (HasValidQuestion t) xs
  answers_valid = each_answer (HasValidQuestion t) (most_of bits) t a b (λ list q x lawful asked given. subst (IsAskedIn t) (sym given.allowed.question) asked) (first, second) (first, second) lists xs lawful given

  pub answers_narrow : AllByRecursion HasNarrowVerdict xs
  answers_narrow = each_answer HasNarrowVerdict (most_of bits) t a b (λ list q x lawful asked given. printable bits x.verdict given.narrow) (first, second) (first, second) lists xs lawful given
