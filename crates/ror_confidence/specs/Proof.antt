-- Which answers prove a span: those at its borders.
use Rattle.std.specs.Prelude.{◌≡◌, ℕ, ◌+◌, ◌-◌, Bool, true, false, ◌&&◌, nat_lt, nat_le, if◌then◌else◌, List, [], ◌∷◌, ◌++◌, length}
use Rattle.std.specs.List.{AllByRecursion, AllZip}
use Rattle.ror_statement.specs.declared.statement.Statement.{Statement}
use Rattle.ror_statement.specs.declared.question.Question.{Question}
use Rattle.ror_statement.specs.declared.question.Question.TheVariants.{Consistent, Necessary, Possible}
use Rattle.ror_statement.specs.declared.question.QuestionKind.{QuestionKind}
use Rattle.ror_statement.specs.declared.question.QuestionKind.TheVariants.{Plain, Any, Every}
use Rattle.ror_statement.specs.declared.question.Conclusion.{Conclusion}
use Rattle.ror_statement.specs.declared.question.Conclusion.TheVariants as conclusions
use Rattle.ror_statement.specs.Questions.{kind_of}
use Rattle.ror_table.specs.Table.{DecisionTable}
use Rattle.ror_proof.specs.declared.answer.Verdict.{Verdict}
use Rattle.ror_proof.specs.declared.answer.Verdict.TheVariants as verdicts
use Rattle.ror_check.specs.Proof.{IsProvedAnswer}
use Rattle.ror_given.specs.Answers.{IsVerdictWithin}
use Rattle.ror_confidence.specs.declared.due.Due.{Due}
use Rattle.ror_confidence.specs.declared.span.LevelAnswer.{LevelAnswer}
use Rattle.ror_confidence.specs.declared.span.Span.{Span}
use Rattle.ror_confidence.specs.Levels.{list_of_level}

-- the verdict has this conclusion
abbrev pub concludes : Conclusion → Verdict → Bool
concludes conclusions.Yes (verdicts.Yes proof) = true
concludes conclusions.No (verdicts.No proof) = true
concludes conclusions.Contradiction (verdicts.Contradiction proof) = true
concludes _ _ = false

-- What is concluded on a question of this kind from its border on, as statements are added: that they contradict each other,
-- that every compatible function has the property, that none has it.
abbrev pub conclusion_from : QuestionKind → Conclusion
conclusion_from Plain = conclusions.Contradiction
conclusion_from Every = conclusions.Yes
conclusion_from Any = conclusions.No

-- what is concluded below it
abbrev pub conclusion_below : QuestionKind → Conclusion
conclusion_below Every = conclusions.No
conclusion_below _ = conclusions.Yes

-- what is due at the level of a border, where that is below the end
abbrev pub due_from : Question → ℕ → ℕ → List Due
due_from q level end = if nat_lt level end then record {
  level = level;
  question = q;
  conclusion = conclusion_from (kind_of q);
} ∷ [] else []

-- what is due at the level before it, where there is one
abbrev pub due_below : Question → ℕ → List Due
due_below q level = if nat_lt 1 level then record {
  level = level - 1;
  question = q;
  conclusion = conclusion_below (kind_of q);
} ∷ [] else []

-- What is due for a span over n levels, in order. Its borders are the levels at which the statements begin to contradict each
-- other, at which the necessary preference begins to hold, and at which the possible one holds no more.
abbrev pub dues_of : ℕ → ℕ → ℕ → ℕ → ℕ → ℕ → List Due
dues_of n a b contradictory necessary possible =
    due_from Consistent contradictory (n + 1) ++ due_below Consistent contradictory
    ++ due_from (Necessary a b) necessary contradictory ++ due_below (Necessary a b) necessary
    ++ due_below (Possible a b) (possible + 1) ++ due_from (Possible a b) (possible + 1) contradictory

-- the levels of a span over n levels can be those of one
abbrev pub is_in_range : ℕ → ℕ → ℕ → ℕ → Bool
is_in_range n contradictory necessary possible =
    nat_le 1 contradictory && nat_le contradictory (n + 1) && nat_le 1 necessary
    && nat_le necessary contradictory && nat_lt possible contradictory

-- the answer is the one that is due, with its proof over the statements of its level
pub record IsProvedDue (t : DecisionTable) (lists : List (List Statement)) (due : Due)
    (x : LevelAnswer) : Type 0 where
  pub level : x.level ≡ due.level
  pub conclusion : concludes due.conclusion x.answer.verdict ≡ true
  pub proved : IsProvedAnswer t (list_of_level lists due.level) due.question x.answer

-- the answers are all that are due, in order
pub record IsProvedSpan (t : DecisionTable) (lists : List (List Statement)) (a b : ℕ)
    (x : Span) : Type 0 where
  pub range : is_in_range (length lists) x.contradictory x.necessary x.possible ≡ true
  pub answers : AllZip (IsProvedDue t lists)
      (dues_of (length lists) a b x.contradictory x.necessary x.possible) x.proof

-- no number of the answers passes most
abbrev pub IsSpanWithin : ℕ → Span → Type 0
IsSpanWithin most x = AllByRecursion (λ y. IsVerdictWithin most y.answer.verdict) x.proof
