-- How often each statement counts in a refutation: the multipliers of the rows that it gives.
use Rattle.std.specs.Prelude.{ℕ, Bool, ◌==◌, ◌||◌, nat_lt, List, [], ◌∷◌, ◌++◌, length, slice_get, Option, Some, None, if◌then◌else◌, ℤ, unsigned_abs}
use Rattle.std.specs.List.{flat_map, range_with_len}
use Rattle.std.specs.Option.{option_map_or}
use Rattle.ror_integers.specs.Vectors.{entry}
use Rattle.ror_statement.specs.declared.comparison.Relation.{Relation}
use Rattle.ror_statement.specs.declared.comparison.Relation.TheVariants as relations
use Rattle.ror_statement.specs.declared.comparison.Comparison.{Comparison}
use Rattle.ror_statement.specs.declared.statement.Assignment.{Assignment}
use Rattle.ror_statement.specs.declared.statement.Numbered.{Numbered}
use Rattle.ror_statement.specs.declared.question.QuestionKind.{QuestionKind}
use Rattle.ror_statement.specs.declared.question.QuestionKind.TheVariants.{Any}
use Rattle.ror_statement.specs.declared.question.Property.{Property}
use Rattle.ror_statement.specs.declared.question.Property.TheVariants.{InClass}
use Rattle.ror_statement.specs.declared.question.Question.{Question}
use Rattle.ror_statement.specs.Statements.{comparison_of, assignment_of, outranks}
use Rattle.ror_statement.specs.Questions.{kind_of, property_of}
use Rattle.ror_proof.specs.declared.answer.Certificate.{Certificate}
use Rattle.ror_proof.specs.declared.answer.Certificate.TheVariants as certificates
use Rattle.ror_proof.specs.declared.answer.Verdict.{Verdict}
use Rattle.ror_show_find_proofs.specs.Sums.{refutation}
use Rattle.ror_show_find_proofs.specs.declared.owners.Owners.{Owners}

-- ---- which statements give a row

-- the numbers of the two statements that give a row: the same twice where one gives it by itself, and 0 where none does
abbrev pub alone : ℕ → List (ℕ × ℕ)
alone n = (n, n) ∷ []

abbrev pub weak_for : ℕ → Relation → List (ℕ × ℕ)
weak_for n relations.Above = []
weak_for n relations.AtLeast = alone n
weak_for n relations.Equal = (n, n) ∷ alone n

abbrev pub strict_for : ℕ → Relation → List (ℕ × ℕ)
strict_for n relations.Above = alone n
strict_for n relations.AtLeast = []
strict_for n relations.Equal = []

abbrev pub weak_by : ℕ → Option Comparison → List (ℕ × ℕ)
weak_by n None = []
weak_by n (Some c) = weak_for n c.relation

abbrev pub strict_by : ℕ → Option Comparison → List (ℕ × ℕ)
strict_by n None = []
strict_by n (Some c) = strict_for n c.relation

-- the weak rows of a statement, and its strict ones
abbrev pub weak_of : Numbered → List (ℕ × ℕ)
weak_of x = weak_by x.number (comparison_of x.statement)

abbrev pub strict_of : Numbered → List (ℕ × ℕ)
strict_of x = strict_by x.number (comparison_of x.statement)

-- two class statements give a strict row together, where the classes of the one are above those of the other
abbrev pub pair_by : ℕ → Option Assignment → ℕ → Option Assignment → List (ℕ × ℕ)
pair_by m (Some r) n (Some s) = if outranks r s then (m, n) ∷ [] else []
pair_by m _ n _ = []

abbrev pub pair_of : Numbered → Numbered → List (ℕ × ℕ)
pair_of x y = pair_by x.number (assignment_of x.statement) y.number (assignment_of y.statement)

abbrev pub pairs_of : List Numbered → Numbered → List (ℕ × ℕ)
pairs_of part x = flat_map (pair_of x) part

-- a class statement that is against the class gives a strict row of the question
abbrev pub is_against : ℕ → Assignment → Bool
is_against h x = nat_lt h x.lowest || nat_lt x.highest h

abbrev pub condition_by : ℕ → ℕ → Option Assignment → List (ℕ × ℕ)
condition_by h n None = []
condition_by h n (Some x) = if is_against h x then alone n else []

abbrev pub condition_of : ℕ → Numbered → List (ℕ × ℕ)
condition_of h x = condition_by h x.number (assignment_of x.statement)

abbrev pub conditions_for : List Numbered → QuestionKind → Property → List (ℕ × ℕ)
conditions_for part Any (InClass a h) = flat_map (condition_of h) part
conditions_for part _ _ = []

abbrev pub conditions_of : List Numbered → Question → List (ℕ × ℕ)
conditions_of part q = conditions_for part (kind_of q) (property_of q)

-- the first strict row is no statement's
abbrev pub strict_owners : List Numbered → Question → List (ℕ × ℕ)
strict_owners part q =
    (0, 0) ∷ [] ++ flat_map strict_of part ++ flat_map (pairs_of part) part ++ conditions_of part q

abbrev pub owners_of : List Numbered → Question → Owners
owners_of part q = record { weak = flat_map weak_of part; strict = strict_owners part q }

-- ---- the multipliers of the rows that a statement gives, but for 0

abbrev pub is_owner : ℕ → ℕ × ℕ → Bool
is_owner n owner = owner.0 == n || owner.1 == n

abbrev pub some_weight : ℤ → List ℕ
some_weight m = if unsigned_abs m == 0 then [] else unsigned_abs m ∷ []

abbrev pub weight_by : ℕ → List ℤ → ℕ → ℕ × ℕ → List ℕ
weight_by n ms k owner = if is_owner n owner then some_weight (entry ms k) else []

abbrev pub weight_at : ℕ → List (ℕ × ℕ) → List ℤ → ℕ → List ℕ
weight_at n owners ms k = option_map_or (weight_by n ms k) (slice_get owners k) []

-- of the rows that have a multiplier
abbrev pub weights_in : ℕ → List (ℕ × ℕ) → List ℤ → List ℕ
weights_in n owners ms = flat_map (weight_at n owners ms) (range_with_len 0 (length ms))

abbrev pub weights_in_certificate : ℕ → Owners → Certificate → List ℕ
weights_in_certificate n owners (certificates.Solution x) = []
weights_in_certificate n owners (certificates.Multipliers m) =
    weights_in n owners.weak m.weak ++ weights_in n owners.strict m.strict

-- those of the certificate that refutes
abbrev pub weights_of : ℕ → Owners → Verdict → List ℕ
weights_of n owners v = option_map_or (weights_in_certificate n owners) (refutation v) []
