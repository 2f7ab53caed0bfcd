-- The questions on the classes of an alternative.
use Rattle.std.specs.Prelude.{ℕ, ◌+◌, List, [], ◌∷◌}
use Rattle.std.specs.List.{flat_map, range_with_len}
use Rattle.ror_statement.specs.declared.question.Question.{Question}
use Rattle.ror_statement.specs.declared.question.Question.TheVariants.{PossibleClass, NecessaryClass}

-- the question is on an alternative and a class
abbrev pub IsClassQuestion : Question → Type 0
IsClassQuestion (PossibleClass a h) = Unit {0}
IsClassQuestion (NecessaryClass a h) = Unit {0}
IsClassQuestion _ = ⊥

-- both questions on an alternative and a class
abbrev pub questions_on : ℕ → ℕ → List Question
questions_on a h = PossibleClass a h ∷ NecessaryClass a h ∷ []

-- those on an alternative and each of so many classes, from the worst on
abbrev pub class_questions : ℕ → ℕ → List Question
class_questions a classes = flat_map (λ below. questions_on a (below + 1)) (range_with_len 0 classes)
