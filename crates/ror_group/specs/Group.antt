-- The four answers of a group of judges on a pair of alternatives, each judge with a list of statements.
use Rattle.std.specs.Prelude.{ℕ, ◌⊎◌, List, [], ◌∷◌}
use Rattle.std.specs.List.{AllByRecursion}
use Rattle.ror_statement.specs.declared.statement.Statement.{Statement}
use Rattle.ror_statement.specs.declared.question.Question.{Question}
use Rattle.ror_statement.specs.declared.question.Question.TheVariants.{Necessary, Possible}
use Rattle.ror_statement.specs.declared.question.Conclusion.{Conclusion}
use Rattle.ror_statement.specs.declared.question.Conclusion.TheVariants as conclusions
use Rattle.ror_statement.specs.Questions.{kind_of, property_of}
use Rattle.ror_table.specs.Table.{DecisionTable}
use Rattle.ror_value.specs.Meaning.{HoldsOfCompatible, IsConsistent, IsContradictory}
use Rattle.ror_group.specs.declared.quartet.Word4.{Word4}
use Rattle.ror_group.specs.declared.quartet.Word4.TheVariants as words
use Rattle.ror_group.specs.declared.quartet.Quartet.{Quartet}

-- of how many of the judges something is said
pub data Quantifier : Type 0 where
  every_judge : Quantifier
  some_judge : Quantifier

-- the list of some judge has this
abbrev pub SomeHas : (List Statement → Type 0) → List (List Statement) → Type 0
SomeHas P [] = ⊥
SomeHas P (list ∷ lists) = P list ⊎ SomeHas P lists

-- the list of every judge has this, or that of some judge
abbrev pub Have : Quantifier → (List Statement → Type 0) → List (List Statement) → Type 0
Have every_judge P lists = AllByRecursion P lists
Have some_judge P lists = SomeHas P lists

-- the functions that are compatible with a judge's list and over which the question is asked have what it asks of them
abbrev pub HoldsFor : DecisionTable → Question → List Statement → Type 0
HoldsFor t q list = HoldsOfCompatible t list (kind_of q) (property_of q)

-- The conclusion of the group on the question. Where some judge contradicts himself it is a contradiction; otherwise it is
-- yes exactly where the question's answer is yes for every judge, or for some judge.
abbrev pub IsGroupAnswer : DecisionTable → List (List Statement) → Quantifier → Question → Conclusion
    → Type 0
IsGroupAnswer t lists quantifier q conclusions.Yes =
    AllByRecursion (IsConsistent t) lists × Have quantifier (HoldsFor t q) lists
IsGroupAnswer t lists quantifier q conclusions.No =
    AllByRecursion (IsConsistent t) lists × (Have quantifier (HoldsFor t q) lists → ⊥)
IsGroupAnswer t lists quantifier q conclusions.Contradiction = SomeHas (IsContradictory t) lists

-- the word concludes nothing, or is the conclusion of the group
abbrev pub IsWideOrGroupAnswer : DecisionTable → List (List Statement) → Quantifier → Question → Word4
    → Type 0
IsWideOrGroupAnswer t lists quantifier q words.Yes = IsGroupAnswer t lists quantifier q conclusions.Yes
IsWideOrGroupAnswer t lists quantifier q words.No = IsGroupAnswer t lists quantifier q conclusions.No
IsWideOrGroupAnswer t lists quantifier q words.Contradiction =
    IsGroupAnswer t lists quantifier q conclusions.Contradiction
IsWideOrGroupAnswer t lists quantifier q words.Wide = Unit {0}

-- the words that are not wide are the four answers of the group on the pair
pub record AreGroupAnswers (t : DecisionTable) (lists : List (List Statement)) (a b : ℕ)
    (q : Quartet) : Type 0 where
  pub necessary_for_every : IsWideOrGroupAnswer t lists every_judge (Necessary a b) q.necessary_for_every
  pub necessary_for_some : IsWideOrGroupAnswer t lists some_judge (Necessary a b) q.necessary_for_some
  pub possible_for_every : IsWideOrGroupAnswer t lists every_judge (Possible a b) q.possible_for_every
  pub possible_for_some : IsWideOrGroupAnswer t lists some_judge (Possible a b) q.possible_for_some
