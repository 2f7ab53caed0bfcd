-- The ordered pairs of different alternatives, and the questions on the necessary and the possible preference relation.
use Rattle.std.specs.Prelude.{ℕ, ◌==◌, ◌<◌, ◌≢◌, List, [], ◌∷◌, if◌then◌else◌}
use Rattle.std.specs.List.{flat_map, range_with_len}
use Rattle.ror_statement.specs.declared.question.Question.{Question}
use Rattle.ror_statement.specs.declared.question.Question.TheVariants.{Necessary, Possible}

-- the pair of two alternatives, where they differ
abbrev pub pair_of_different : ℕ → ℕ → List (ℕ × ℕ)
pair_of_different a b = if a == b then [] else (a, b) ∷ []

-- those of one alternative and each other one of so many
abbrev pub pairs_from : ℕ → ℕ → List (ℕ × ℕ)
pairs_from n a = flat_map (pair_of_different a) (range_with_len 0 n)

-- the ordered pairs of different ones of so many alternatives, in order of the first, and of the second where the first is the
-- same
abbrev pub ordered_pairs : ℕ → List (ℕ × ℕ)
ordered_pairs n = flat_map (pairs_from n) (range_with_len 0 n)

-- the members are different ones of so many
abbrev pub AreDifferentOf : ℕ → ℕ × ℕ → Type 0
AreDifferentOf n p = (p.0 ≢ p.1) × (p.0 < n) × (p.1 < n)

-- both questions on an ordered pair
abbrev pub pair_questions : ℕ × ℕ → List Question
pair_questions p = Necessary p.0 p.1 ∷ Possible p.0 p.1 ∷ []

-- those on each ordered pair of so many alternatives, in order
abbrev pub relation_questions : ℕ → List Question
relation_questions n = flat_map pair_questions (ordered_pairs n)
