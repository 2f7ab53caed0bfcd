-- The laws of value functions, of meeting a list, of conclusions, of necessary and possible preference, and of classes.
use Rattle.std.specs.Prelude.{◌≡◌, ◌↔◌, ◌⊎◌, ℕ, ◌<◌, ◌≤◌, true, List, length, map, slice_get, Some, ℤ, pos, ◌*ℤ◌, ◌≤ℤ◌, ◌<ℤ◌}
use Rattle.std.specs.List.{AllByRecursion, range_with_len}
use Rattle.ror_integers.specs.Vectors.{dot, total}
use Rattle.ror_statement.specs.declared.statement.Statement.{Statement}
use Rattle.ror_statement.specs.declared.statement.Assignment.{Assignment}
use Rattle.ror_statement.specs.declared.comparison.Comparison.{Comparison}
use Rattle.ror_statement.specs.declared.question.QuestionKind.TheVariants.{Any, Every}
use Rattle.ror_statement.specs.declared.question.Property.TheVariants.{InClass}
use Rattle.ror_statement.specs.declared.question.Question.{Question}
use Rattle.ror_statement.specs.declared.question.Question.TheVariants.{Necessary, Possible}
use Rattle.ror_statement.specs.declared.question.Conclusion.{Conclusion}
use Rattle.ror_statement.specs.Statements.{comparison_of, assignment_of}
use Rattle.ror_statement.specs.Questions.{property_of}
use Rattle.ror_table.specs.Blocks.{block}
use Rattle.ror_table.specs.Laws.{apart}
use Rattle.ror_table.specs.Table.{DecisionTable, IsTable, has_weights, level, steps}
use Rattle.ror_value.specs.Over.{IsValidIn}
use Rattle.ror_value.specs.Value.{IsValueFunction, steps_on, marginal, value, ideal_value}
use Rattle.ror_value.specs.Meaning.{Holds, Meets, worst_class, best_class, Has, IsConsistent, HoldsOfCompatible, Answers}

-- marginal values start at 0 and never fall, those at the best levels sum to the ideal value, which is above 0, and so each
-- value lies between 0 and the ideal one
pub record IsNormalisedAndMonotone (t : DecisionTable) (w : List ℤ) : Type 0 where
  pub zero_at_worst : (i : ℕ) → marginal t w i 0 ≡ pos 0
  pub monotone : (i r s : ℕ) → r ≤ s → marginal t w i r ≤ℤ marginal t w i s
  pub ideal_at_best : total (map (λ i. marginal t w i (steps t i))
      (range_with_len 0 (length t.criteria))) ≡ ideal_value t w
  pub positive_ideal : pos 0 <ℤ ideal_value t w
  pub not_below_zero : (a : ℕ) → pos 0 ≤ℤ value t w a
  pub not_above_ideal : (a : ℕ) → value t w a ≤ℤ ideal_value t w

abbrev pub NormalisedAndMonotone : Type 0
NormalisedAndMonotone = (t : DecisionTable) (w : List ℤ) → IsTable t → IsValueFunction t w
    → IsNormalisedAndMonotone t w

-- on a linear criterion the marginal values of the levels are in the ratios of their distances from the worst level
abbrev pub LinearBetweenEnds : Type 0
LinearBetweenEnds = (t : DecisionTable) (w : List ℤ) (i r s : ℕ) → IsTable t → i < length t.criteria
    → has_weights t i ≡ true → r ≤ steps t i → s ≤ steps t i
    → marginal t w i r *ℤ (pos (apart (level t i s) (level t i 0)) *ℤ (level t i r).den)
    ≡ marginal t w i s *ℤ (pos (apart (level t i r) (level t i 0)) *ℤ (level t i s).den)

-- a marginal value is the dot product of the block at the rank with the steps on the criterion
abbrev pub MarginalIsDot : Type 0
MarginalIsDot = (t : DecisionTable) (w : List ℤ) (i r : ℕ)
    → marginal t w i r ≡ dot (block t i r) (steps_on t w i)

-- one question has one answer over a list
abbrev pub OneConclusion : Type 0
OneConclusion = (t : DecisionTable) (list : List Statement) (q : Question) (c d : Conclusion)
    → Answers t list q c → Answers t list q d → c ≡ d

-- A function meets a list exactly where it has the comparison of each statement, and at every two places whose statements
-- assign to classes, of which the first's are all above the second's, the first's alternative is worth more.
pub record MeetsEach (t : DecisionTable) (w : List ℤ) (list : List Statement) : Type 0 where
  pub comparisons : (k : ℕ) (s : Statement) (c : Comparison) → slice_get list k ≡ Some s
      → comparison_of s ≡ Some c → Holds t w c
  pub classes : (j k : ℕ) (r s : Statement) (x y : Assignment)
      → slice_get list j ≡ Some r → slice_get list k ≡ Some s
      → assignment_of r ≡ Some x → assignment_of s ≡ Some y
      → y.highest < x.lowest → value t w y.alternative <ℤ value t w x.alternative

abbrev pub MeetingIsOfEach : Type 0
MeetingIsOfEach = (t : DecisionTable) (w : List ℤ) (list : List Statement)
    → Meets t w list ↔ MeetsEach t w list

-- a is worth at least b for every compatible function; for some one
abbrev pub IsNecessarilyPreferred : DecisionTable → List Statement → ℕ → ℕ → Type 0
IsNecessarilyPreferred t list a b = HoldsOfCompatible t list Every (property_of (Necessary a b))

abbrev pub IsPossiblyPreferred : DecisionTable → List Statement → ℕ → ℕ → Type 0
IsPossiblyPreferred t list a b = HoldsOfCompatible t list Any (property_of (Possible a b))

-- the relations of UTA-GMS over a list with which some value function is compatible
pub record Relations (t : DecisionTable) (list : List Statement) : Type 0 where
  pub reflexive : (a : ℕ) → IsNecessarilyPreferred t list a a
  pub transitive : (a b c : ℕ) → IsNecessarilyPreferred t list a b
      → IsNecessarilyPreferred t list b c → IsNecessarilyPreferred t list a c
  pub contained : (a b : ℕ) → IsNecessarilyPreferred t list a b → IsPossiblyPreferred t list a b
  pub strongly_complete : (a b : ℕ) → IsPossiblyPreferred t list a b ⊎ IsPossiblyPreferred t list b a
  pub negatively_transitive : (a b c : ℕ) → IsPossiblyPreferred t list a c
      → IsPossiblyPreferred t list a b ⊎ IsPossiblyPreferred t list b c
  pub converse : (a b : ℕ) → (IsPossiblyPreferred t list b a → ⊥) → IsNecessarilyPreferred t list a b

abbrev pub RelationsOfConsistent : Type 0
RelationsOfConsistent = (t : DecisionTable) (list : List Statement)
    → IsConsistent t list → Relations t list

-- ---- classes

-- it holds of the assignment of each statement that makes one
abbrev pub OfEachAssignment : List Statement → (Assignment → Type 0) → Type 0
OfEachAssignment list P = (k : ℕ) (s : Statement) (x : Assignment) → slice_get list k ≡ Some s
    → assignment_of s ≡ Some x → P x

-- where the assigned alternative is worth at most as much as a, its lowest class is at most h
abbrev pub IsHighEnough : DecisionTable → List ℤ → ℕ → ℕ → Assignment → Type 0
IsHighEnough t w a h x = value t w x.alternative ≤ℤ value t w a → x.lowest ≤ h

-- where the assigned alternative is worth at least as much as a, its highest class is at least h
abbrev pub IsLowEnough : DecisionTable → List ℤ → ℕ → ℕ → Assignment → Type 0
IsLowEnough t w a h x = value t w a ≤ℤ value t w x.alternative → h ≤ x.highest

-- The worst class of an alternative is at most h exactly where h is at least 1 and high enough beside each assignment; the
-- best class is at least h exactly where h is at most the number of classes and low enough beside each. So of the table's
-- classes the alternative may belong to those that are both.
pub record ClassByEachAssignment : Type 0 where
  pub worst : (t : DecisionTable) (list : List Statement) (w : List ℤ) (a h : ℕ)
      → (worst_class t list w a ≤ h) ↔ ((1 ≤ h) × OfEachAssignment list (IsHighEnough t w a h))
  pub best : (t : DecisionTable) (list : List Statement) (w : List ℤ) (a h : ℕ)
      → (h ≤ best_class t list w a)
      ↔ ((h ≤ t.classes) × OfEachAssignment list (IsLowEnough t w a h))
  pub in_class : (t : DecisionTable) (list : List Statement) (w : List ℤ) (a h : ℕ)
      → 1 ≤ h → h ≤ t.classes → Has t list w (InClass a h)
      ↔ OfEachAssignment list (λ x. IsHighEnough t w a h x × IsLowEnough t w a h x)

-- The interval of classes that a function leaves an alternative: it doesn't pass the table's classes; over valid statements
-- of a table with classes its ends are classes, and it isn't empty where the function meets the list. That of an assigned
-- alternative lies within the assignment, and of two alternatives the one that is worth at least as much has no lower end.
pub record ClassIntervals : Type 0 where
  pub within_classes : (t : DecisionTable) (list : List Statement) (w : List ℤ) (a : ℕ)
      → (1 ≤ worst_class t list w a) × (best_class t list w a ≤ t.classes)
  pub ends_are_classes : (t : DecisionTable) (list : List Statement) (w : List ℤ) (a : ℕ)
      → 1 ≤ t.classes → AllByRecursion (IsValidIn t) list
      → (worst_class t list w a ≤ t.classes) × (1 ≤ best_class t list w a)
  pub not_empty : (t : DecisionTable) (list : List Statement) (w : List ℤ) (a : ℕ)
      → 1 ≤ t.classes → AllByRecursion (IsValidIn t) list → Meets t w list
      → worst_class t list w a ≤ best_class t list w a
  pub within_assigned : (t : DecisionTable) (list : List Statement) (w : List ℤ)
      → OfEachAssignment list (λ x. (x.lowest ≤ worst_class t list w x.alternative)
      × (best_class t list w x.alternative ≤ x.highest))
  pub monotone : (t : DecisionTable) (list : List Statement) (w : List ℤ) (a b : ℕ)
      → value t w a ≤ℤ value t w b
      → (worst_class t list w a ≤ worst_class t list w b)
      × (best_class t list w a ≤ best_class t list w b)
