-- The laws of the answers of a group.
use Rattle.std.specs.Prelude.{◌≡◌, ◌≢◌, ◌↔◌, ℕ, ◌<◌, true, false, List, [], length}
use Rattle.std.specs.List.{AllByRecursion}
use Rattle.ror_statement.specs.declared.statement.Statement.{Statement}
use Rattle.ror_statement.specs.declared.question.Question.{Question}
use Rattle.ror_statement.specs.declared.question.Conclusion.{Conclusion}
use Rattle.ror_statement.specs.declared.question.Conclusion.TheVariants.{Yes, No}
use Rattle.ror_table.specs.Table.{DecisionTable}
use Rattle.ror_value.specs.Over.{IsLawfulIn}
use Rattle.ror_proof.specs.declared.answer.Answer.{Answer}
use Rattle.ror_check.specs.Proof.{IsWideOrTrue}
use Rattle.ror_group.specs.declared.fault.GroupFault.{GroupFault}
use Rattle.ror_group.specs.declared.quartet.Quartet.{Quartet}
use Rattle.ror_group.specs.declared.quartet.Word4.{Word4}
use Rattle.ror_group.specs.declared.quartet.Word4.TheVariants as words
use Rattle.ror_group.specs.Proof.{IsProvedPair}
use Rattle.ror_group.specs.Faults.{FailsPair}
use Rattle.ror_group.specs.Group.{Quantifier, IsGroupAnswer, AreGroupAnswers}
use Rattle.ror_group.specs.Group.Quantifier.{every_judge, some_judge}
use Rattle.ror_group.specs.Combining.{asked_on, InStep, on_necessary, on_possible, one_says, combined}

-- a group has no two answers to a question
abbrev pub OneGroupAnswer : Type 0
OneGroupAnswer = (t : DecisionTable) (lists : List (List Statement)) (quantifier : Quantifier) (q : Question)
    (c d : Conclusion) → IsGroupAnswer t lists quantifier q c → IsGroupAnswer t lists quantifier q d → c ≡ d

-- without judges all is so for every one of them, and nothing for some one
abbrev pub NoJudges : Type 0
NoJudges = (t : DecisionTable) (q : Question)
    → IsGroupAnswer t [] every_judge q Yes × IsGroupAnswer t [] some_judge q No

-- where each answer is true of its judge's list or concludes nothing, the words are the group's answers or conclude
-- nothing
abbrev pub CombinedAreTrue : Type 0
CombinedAreTrue = (t : DecisionTable) (lists : List (List Statement)) (a b : ℕ) (xs : List Answer)
    → InStep (λ q x. IsWideOrTrue t q.list q.question x.verdict) (asked_on a b lists) xs
    → AreGroupAnswers t lists a b (combined xs)

-- what the judges' answers prove is true of all functions that are compatible with the judges' lists
abbrev pub ProvedPairsAreTrue : Type 0
ProvedPairsAreTrue = (t : DecisionTable) (lists : List (List Statement)) (a b : ℕ)
    (xs : List Answer) (q : Quartet) → AllByRecursion (IsLawfulIn t) lists
    → a < length t.alternatives → b < length t.alternatives
    → IsProvedPair t lists a b xs q → AreGroupAnswers t lists a b q

-- no test fails of what is proved
abbrev pub ProvedPairPassesEachTest : Type 0
ProvedPairPassesEachTest = (t : DecisionTable) (lists : List (List Statement)) (a b : ℕ)
    (xs : List Answer) (q : Quartet) (fault : GroupFault)
    → IsProvedPair t lists a b xs q → FailsPair t lists a b xs q fault → ⊥

-- the word is wide exactly where no answer is a contradiction and one of those that it goes by is wide
abbrev pub IsWideBy : List Answer → List Answer → Word4 → Type 0
IsWideBy all xs word = (word ≡ words.Wide)
    ↔ ((one_says words.Contradiction all ≡ false) × (one_says words.Wide xs ≡ true))

-- so is each of the four words, by the answers on its relation
pub record AreWideBy (xs : List Answer) (q : Quartet) : Type 0 where
  pub necessary_for_every : IsWideBy xs (on_necessary xs) q.necessary_for_every
  pub necessary_for_some : IsWideBy xs (on_necessary xs) q.necessary_for_some
  pub possible_for_every : IsWideBy xs (on_possible xs) q.possible_for_every
  pub possible_for_some : IsWideBy xs (on_possible xs) q.possible_for_some

abbrev pub WordsAreWideByAnswers : Type 0
WordsAreWideByAnswers = (xs : List Answer) → AreWideBy xs (combined xs)

-- no word is wide
pub record HasNoWideWord (q : Quartet) : Type 0 where
  pub necessary_for_every : q.necessary_for_every ≢ words.Wide
  pub necessary_for_some : q.necessary_for_some ≢ words.Wide
  pub possible_for_every : q.possible_for_every ≢ words.Wide
  pub possible_for_some : q.possible_for_some ≢ words.Wide

-- where no answer is wide, no word is
abbrev pub NoWideWords : Type 0
NoWideWords = (xs : List Answer) → one_says words.Wide xs ≡ false → HasNoWideWord (combined xs)
