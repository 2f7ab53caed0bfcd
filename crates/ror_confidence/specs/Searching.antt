-- What the search for the border of a question keeps, and what it finds.
use Rattle.std.specs.Prelude.{◌≡◌, ◌⊎◌, ℕ, ◌+◌, ◌-◌, ◌<◌, ◌≤◌, ◌^◌, Bool, true, false, ◌||◌, List, [], ◌∷◌, ◌++◌, length, Option, Some, None, MatchOption}
use Rattle.ror_statement.specs.declared.statement.Statement.{Statement}
use Rattle.ror_statement.specs.declared.question.Question.{Question}
use Rattle.ror_statement.specs.declared.question.Question.TheVariants.{Consistent}
use Rattle.ror_statement.specs.declared.question.QuestionKind.{QuestionKind}
use Rattle.ror_statement.specs.Questions.{kind_of}
use Rattle.ror_table.specs.Table.{DecisionTable}
use Rattle.ror_proof.specs.declared.answer.Answer.{Answer}
use Rattle.ror_check.specs.Proof.{is_wide}
use Rattle.ror_given.specs.Answers.{IsGiven}
use Rattle.ror_confidence.specs.declared.border.Border.{Border}
use Rattle.ror_confidence.specs.declared.fault.SpanFault.{SpanFault}
use Rattle.ror_confidence.specs.declared.fault.SpanFault.TheVariants as faults
use Rattle.ror_confidence.specs.declared.search.Base.{Base}
use Rattle.ror_confidence.specs.declared.search.Base.TheVariants as bases
use Rattle.ror_confidence.specs.declared.search.LevelSearch.{LevelSearch}
use Rattle.ror_confidence.specs.declared.span.LevelAnswer.{LevelAnswer}
use Rattle.ror_confidence.specs.Levels.{list_of_level}
use Rattle.ror_confidence.specs.Spans.{AreLevelLists}
use Rattle.ror_confidence.specs.Finding.{IsFoundAt}
use Rattle.ror_confidence.specs.Proof.{concludes, conclusion_from, conclusion_below}

-- at each level before the end a question has one of two conclusions, or is too wide
abbrev pub HasTwoSides : ℕ → DecisionTable → List (List Statement) → Question → ℕ → Type 0
HasTwoSides most t lists q end = (level : ℕ) (x : Answer) → 1 ≤ level → level < end
    → IsGiven most t (list_of_level lists level) q x → is_wide x.verdict ≡ false
    → concludes (conclusion_from (kind_of q)) x.verdict ≡ false
    → concludes (conclusion_below (kind_of q)) x.verdict ≡ true

-- the answer below a border at a level: there is none where the level is the first
abbrev pub IsBelow : ℕ → DecisionTable → List (List Statement) → Question → ℕ → Option Answer → Type 0
IsBelow most t lists q level below = MatchOption below (level ≡ 1)
    (λ x. (1 < level) × IsFoundAt most t lists q (conclusion_below (kind_of q)) (level - 1) x)

-- the answer from it on: there is none where the level is the end
abbrev pub IsFrom : ℕ → DecisionTable → List (List Statement) → Question → ℕ → ℕ → Option Answer → Type 0
IsFrom most t lists q end level from = MatchOption from (level ≡ end)
    (λ x. (level < end) × IsFoundAt most t lists q (conclusion_from (kind_of q)) level x)

-- the answer at a level alone, if there is one
abbrev pub answers_at : ℕ → Option Answer → List LevelAnswer
answers_at level None = []
answers_at level (Some x) = record { level = level; answer = x } ∷ []

-- the border of the question among the levels before the end
pub record IsBorder (most : ℕ) (t : DecisionTable) (lists : List (List Statement)) (q : Question)
    (end : ℕ) (border : Border) : Type 0 where
  pub from_first : 1 ≤ border.level
  pub to_end : border.level ≤ end
  pub one_below : Option Answer
  pub one_from : Option Answer
  pub is_below : border.below ≡ answers_at (border.level - 1) one_below
  pub is_from : border.from ≡ answers_at border.level one_from
  pub below : IsBelow most t lists q border.level one_below
  pub from : IsFrom most t lists q end border.level one_from

-- the question is too wide at this level, and has its conclusion below the border at the level before
pub record IsWideFrom (most : ℕ) (t : DecisionTable) (lists : List (List Statement)) (q : Question)
    (end : ℕ) (x : LevelAnswer) : Type 0 where
  pub from_first : 1 ≤ x.level
  pub to_end : x.level < end
  pub below : 1 < x.level → (y : Answer)
      × IsFoundAt most t lists q (conclusion_below (kind_of q)) (x.level - 1) y
  pub given : IsGiven most t (list_of_level lists x.level) q x.answer
  pub wide : is_wide x.answer.verdict ≡ true

abbrev pub IsWideBorder : ℕ → DecisionTable → List (List Statement) → Question → ℕ → SpanFault → Type 0
IsWideBorder most t lists q end (faults.Wide x) = IsWideFrom most t lists q end x
IsWideBorder most t lists q end faults.Memory = Unit {0}

-- ---- on the way

-- the answer at the greatest level that is known to be below the border, if any
abbrev pub IsLow : ℕ → DecisionTable → List (List Statement) → Question → ℕ → Option Answer → Type 0
IsLow most t lists q low below = MatchOption below (low ≡ 0)
    (λ x. (1 ≤ low) × IsFoundAt most t lists q (conclusion_below (kind_of q)) low x)

-- the answer at the least level that is not known to be below it, if any
abbrev pub IsHigh : ℕ → DecisionTable → List (List Statement) → Question → ℕ → ℕ → Option Answer → Type 0
IsHigh most t lists q end high from = MatchOption from (high ≡ end)
    (λ x. (high < end) × IsGiven most t (list_of_level lists high) q x
    × ((is_wide x.verdict ≡ true) ⊎ (concludes (conclusion_from (kind_of q)) x.verdict ≡ true)))

pub record IsSearched (most : ℕ) (t : DecisionTable) (lists : List (List Statement)) (q : Question)
    (end low high : ℕ) (below from : Option Answer) : Type 0 where
  pub apart : low < high
  pub to_end : high ≤ end
  pub low_side : IsLow most t lists q low below
  pub high_side : IsHigh most t lists q end high from

-- the same of the answers with their levels
pub record HasSearched (most : ℕ) (t : DecisionTable) (lists : List (List Statement)) (q : Question)
    (end low high : ℕ) (below from : List LevelAnswer) : Type 0 where
  pub one_below : Option Answer
  pub one_from : Option Answer
  pub is_below : below ≡ answers_at low one_below
  pub is_from : from ≡ answers_at high one_from
  pub searched : IsSearched most t lists q end low high one_below one_from

-- the answer may be given at the width over the list of the level, and stands alone
pub record IsDecidedAt (most : ℕ) (t : DecisionTable) (list : List Statement) (q : Question)
    (level : ℕ) (answers : List LevelAnswer) : Type 0 where
  pub answer : Answer
  pub is_alone : answers ≡ answers_at level (Some answer)
  pub given : IsGiven most t list q answer

-- its level is taken to be above the border
abbrev pub is_above : QuestionKind → List LevelAnswer → Bool
is_above kind [] = false
is_above kind (x ∷ xs) = is_wide x.answer.verdict || concludes (conclusion_from kind) x.answer.verdict

-- it is too wide
abbrev pub is_open : List LevelAnswer → Bool
is_open [] = false
is_open (x ∷ xs) = is_wide x.answer.verdict

-- there is no answer, or one that is not too wide
abbrev pub IsNarrowIfSome : Option Answer → Type 0
IsNarrowIfSome None = Unit {0}
IsNarrowIfSome (Some x) = is_wide x.verdict ≡ false

-- the answer is the one that is too wide
abbrev pub IsWideEnd : List LevelAnswer → SpanFault → Type 0
IsWideEnd from (faults.Wide x) = (from ≡ x ∷ []) × (is_wide x.answer.verdict ≡ true)
IsWideEnd from faults.Memory = ⊥

-- ---- the answers of a span, in order

abbrev pub answers_of : Border → Border → Border → List LevelAnswer
answers_of c k p = c.from ++ c.below ++ k.from ++ k.below ++ p.below ++ p.from

-- ---- what is kept from pair to pair

-- where statements begin to contradict each other, or the answer that leaves it open
abbrev pub IsBase : ℕ → DecisionTable → List (List Statement) → Base → Type 0
IsBase most t lists (bases.Found border) =
    IsBorder most t lists Consistent (length lists + 1) border
IsBase most t lists (bases.Open x) = IsWideFrom most t lists Consistent (length lists + 1) x

-- the fault is the answer that leaves it open, or want of memory
abbrev pub IsOpenBase : Base → SpanFault → Type 0
IsOpenBase base (faults.Wide x) = base ≡ bases.Open x
IsOpenBase base faults.Memory = Unit {0}

pub record IsSearchOf (most : ℕ) (t : DecisionTable) (search : LevelSearch) : Type 0 where
  pub lists : AreLevelLists t search.lists.items
  pub few : length search.lists.items < 2 ^ 16
  pub base : IsBase most t search.lists.items search.base
