-- The questions on the classes of an alternative: that each is one of the table, and how many they are.
use Rattle.std.proofs.Common.{◌≡◌, ℕ, zero, suc, ◌+◌, ◌<◌, ◌≤◌, List, [], ◌∷◌, ◌++◌, length, refl, ap, ◌∙◌, arith, append_assoc}
use Rattle.std.specs.List.{AllByRecursion, flat_map, range_with_len}
use Rattle.ror_statement.specs.declared.question.Question.{Question}
use Rattle.ror_statement.specs.declared.question.Question.TheVariants.{PossibleClass, NecessaryClass}
use Rattle.ror_table.specs.Table.{DecisionTable}
use Rattle.ror_value.specs.Over.{IsAskedIn}
use Rattle.ror_relation.proofs.PairLemmas.{questions_more}
use Rattle.ror_classes.specs.Classes.{questions_on, class_questions}

-- those on one class more
pub classes_more : (a i : ℕ) (before possible after : List Question) → before ≡ class_questions a i → possible ≡ before ++ PossibleClass a (i + 1) ∷ [] → after ≡ possible ++ NecessaryClass a (i + 1) ∷ [] → after ≡ class_questions a (i + 1)
classes_more a i before possible after so_far one other =
    let both : after ≡ before ++ questions_on a (i + 1) = other ∙ ap (λ (qs : List Question). qs ++ NecessaryClass a (i + 1) ∷ []) one ∙ append_assoc before (PossibleClass a (i + 1) ∷ []) (NecessaryClass a (i + 1) ∷ []) in
    questions_more (λ below. questions_on a (below + 1)) i [] before after so_far both

asked_from : (t : DecisionTable) (a n s : ℕ) → a < length t.alternatives → s + n ≤ t.classes → AllByRecursion (IsAskedIn t) (flat_map (λ below. questions_on a (below + 1)) (range_with_len s n))
asked_from t a zero s within last = tt
asked_from t a (suc n) s within last =
    let here : IsAskedIn t (PossibleClass a (s + 1)) = (within, omega arith, omega (arith, last)) in
    (here, (here, asked_from t a n (s + 1) within (omega (arith, last))))

-- each is on a class of the table
pub class_questions-asked : (t : DecisionTable) (a : ℕ) → a < length t.alternatives → AllByRecursion (IsAskedIn t) (class_questions a t.classes)
class_questions-asked t a within = asked_from t a t.classes 0 within (omega arith)

number_from : (a n s : ℕ) → length (flat_map (λ below. questions_on a (below + 1)) (range_with_len s n)) ≡ n + n
number_from a zero s = refl
number_from a (suc n) s = let rest = number_from a n (s + 1) in omega (arith, rest)

-- there are two for each class
pub class_questions-number : (a classes : ℕ) → length (class_questions a classes) ≡ classes + classes
class_questions-number a classes = number_from a classes 0
