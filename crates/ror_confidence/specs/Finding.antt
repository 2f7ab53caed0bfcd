-- What is found at a width: which questions a decider is asked, which answers may be too wide, and where none is.
use Rattle.std.specs.Prelude.{◌≡◌, ◌⊎◌, ℕ, ◌-◌, ◌<◌, ◌≤◌, Bool, true, false, List, length}
use Rattle.std.specs.List.{AllByRecursion}
use Rattle.ror_statement.specs.declared.statement.Statement.{Statement}
use Rattle.ror_statement.specs.declared.question.Question.{Question}
use Rattle.ror_statement.specs.declared.question.Question.TheVariants.{Consistent, Necessary, Possible, NecessaryClass, PossibleClass}
use Rattle.ror_statement.specs.declared.question.Conclusion.{Conclusion}
use Rattle.ror_statement.specs.Questions.{kind_of}
use Rattle.ror_table.specs.Table.{DecisionTable}
use Rattle.ror_value.specs.Meaning.{IsConsistent}
use Rattle.ror_system.specs.System.{LinearSystem}
use Rattle.ror_pivot.specs.declared.note.Place.{Place}
use Rattle.ror_pivot.specs.Notes.{IsWideNote}
use Rattle.ror_proof.specs.declared.answer.Answer.{Answer}
use Rattle.ror_check.specs.Proof.{IsWide, base_system, question_systems_of}
use Rattle.ror_given.specs.Answers.{IsGiven}
use Rattle.ror_confidence.specs.declared.fault.SpanFault.{SpanFault}
use Rattle.ror_confidence.specs.declared.fault.SpanFault.TheVariants as faults
use Rattle.ror_confidence.specs.declared.span.LevelAnswer.{LevelAnswer}
use Rattle.ror_confidence.specs.Levels.{list_of_level}
use Rattle.ror_confidence.specs.Proof.{concludes, conclusion_below}

-- the question names a class
abbrev pub names_class : Question → Bool
names_class (PossibleClass a h) = true
names_class (NecessaryClass a h) = true
names_class q = false

-- some value function is compatible with the statements of the level
abbrev pub IsConsistentAt : DecisionTable → List (List Statement) → ℕ → Type 0
IsConsistentAt t lists level = IsConsistent t (list_of_level lists level)

-- a question on a span at a level; those on the pair are asked only of statements that do not contradict each other
abbrev pub IsSpanQuestion : DecisionTable → List (List Statement) → ℕ → ℕ → ℕ → Question → Type 0
IsSpanQuestion t lists a b level q = (q ≡ Consistent)
    ⊎ (((q ≡ Necessary a b) ⊎ (q ≡ Possible a b)) × IsConsistentAt t lists level)

-- the answer may be given at the width over the statements of the level, and has this conclusion
pub record IsFoundAt (most : ℕ) (t : DecisionTable) (lists : List (List Statement)) (q : Question)
    (c : Conclusion) (level : ℕ) (x : Answer) : Type 0 where
  pub given : IsGiven most t (list_of_level lists level) q x
  pub conclusion : concludes c x.verdict ≡ true

-- The answer is too wide, and may be given at the width for a question on the span at its level. No level before it is
-- contradictory, so that its level is at most the one from which on statements contradict each other. At the level before the
-- question has the conclusion that it has below its border, so that the border is at this level or after it.
pub record IsWideAtLevel (most : ℕ) (t : DecisionTable) (lists : List (List Statement)) (a b : ℕ)
    (x : LevelAnswer) : Type 0 where
  pub from_first : 1 ≤ x.level
  pub to_last : x.level ≤ length lists
  pub reached : (i : ℕ) → 1 ≤ i → i < x.level → IsConsistentAt t lists i
  pub asked : IsSpanQuestion t lists a b x.level x.answer.question
  pub below : 1 < x.level → (y : Answer) × IsFoundAt most t lists x.answer.question
      (conclusion_below (kind_of x.answer.question)) (x.level - 1) y
  pub given : IsGiven most t (list_of_level lists x.level) x.answer.question x.answer
  pub wide : IsWide x.answer.verdict

-- no number on the path of the system passes most
abbrev pub HasNoWideNote : ℕ → LinearSystem → Type 0
HasNoWideNote most s = (path : List (ℕ × ℕ)) (place : Place) → IsWideNote most s path place → ⊥

-- none on those of the systems of the questions on the pair over the statements
pub record HasNoWideQuestion (most : ℕ) (t : DecisionTable) (a b : ℕ)
    (list : List Statement) : Type 0 where
  pub base : HasNoWideNote most (base_system t list)
  pub necessary : AllByRecursion (HasNoWideNote most) (question_systems_of t list (Necessary a b))
  pub possible : AllByRecursion (HasNoWideNote most) (question_systems_of t list (Possible a b))

-- nor on those of any level
abbrev pub HasNoWideQuestions : ℕ → DecisionTable → List (List Statement) → ℕ → ℕ → Type 0
HasNoWideQuestions most t lists a b = (level : ℕ) → 1 ≤ level → level ≤ length lists
    → HasNoWideQuestion most t a b (list_of_level lists level)

-- the fault may come: want of memory always, and an answer that is too wide where the span depends on it
abbrev pub IsDueSpanFault : ℕ → DecisionTable → List (List Statement) → ℕ → ℕ → SpanFault → Type 0
IsDueSpanFault most t lists a b (faults.Wide x) = IsWideAtLevel most t lists a b x
IsDueSpanFault most t lists a b faults.Memory = Unit {0}
