-- The statement, or the questions, of a line's names and classes: each has its place in the table, or the line is refused.
use Rattle.std.specs.Prelude.{ℕ, ◌==◌, Bool, true, if◌then◌else◌, List, [], ◌∷◌, length, Option, Some, None, Result, Ok, nat_lt}
use Rattle.ror_text.specs.Reading.{◌>>=◌, refuse, need}
use Rattle.ror_table.specs.Table.{DecisionTable, alternative_named, criterion_named}
use Rattle.ror_statement.specs.declared.comparison.Pair.{Pair}
use Rattle.ror_statement.specs.declared.comparison.Scope.{Scope}
use Rattle.ror_statement.specs.declared.comparison.Scope.TheVariants.{Whole, One}
use Rattle.ror_statement.specs.declared.statement.Statement.{Statement}
use Rattle.ror_statement.specs.declared.statement.Statement.TheVariants as statements
use Rattle.ror_statement.specs.declared.question.Question.{Question}
use Rattle.ror_statement.specs.declared.question.Question.TheVariants as questions
use Rattle.ror_session.specs.declared.session.NamedPair.{NamedPair}
use Rattle.ror_session.specs.declared.session.Named.{Named}
use Rattle.ror_session.specs.declared.session.Named.TheVariants.{Prefer, AtLeast, Same, Stronger, AsStrong, EqualStrength, Class}
use Rattle.ror_session.specs.declared.session.Asked.{Asked}
use Rattle.ror_session.specs.declared.session.Asked.TheVariants.{Consistent, Necessary, Possible, NecessaryStrength, PossibleStrength, PossibleClass, NecessaryClass, Classes, Relation}
use Rattle.ror_report.specs.declared.block.LineFault.{LineFault}
use Rattle.ror_report.specs.declared.block.LineFault.TheVariants as faults
use Rattle.ror_relation.specs.Pairs.{relation_questions}
use Rattle.ror_classes.specs.Classes.{class_questions}
use Rattle.ror_bench.specs.declared.names.TheConstants.{MOST_RELATED}
use Rattle.ror_bench.specs.declared.names.Strengths.{Strengths}

-- the alternative of a name
abbrev pub alternative_of : DecisionTable → List ℕ → Result ℕ LineFault
alternative_of t name = need faults.UnknownAlternative (alternative_named t name)

-- the two alternatives of a pair's names
unfoldable pub pair_of : DecisionTable → List ℕ → List ℕ → Result Pair LineFault
pair_of t a b = do
  first ← alternative_of t a
  second ← alternative_of t b
  Ok (record { first = first; second = second })

-- over all criteria, or on the one that is named
abbrev pub scope_of : DecisionTable → Option (List ℕ) → Result Scope LineFault
scope_of t None = Ok Whole
scope_of t (Some name) = need faults.UnknownCriterion (criterion_named t name) >>= λ i. Ok (One i)

-- two pairs of alternatives and the scope: all alternatives before the criterion
unfoldable pub strengths_of : DecisionTable → NamedPair → NamedPair → Option (List ℕ) → Result Strengths LineFault
strengths_of t p q on = do
  first ← pair_of t p.first p.second
  second ← pair_of t q.first q.second
  scope ← scope_of t on
  Ok (record { first = first; second = second; scope = scope })

-- the class is none of the table's, which are numbered from 1
abbrev pub is_no_class : DecisionTable → ℕ → Bool
is_no_class t h = if h == 0 then true else nat_lt t.classes h

-- an assignment: the alternative, then the classes, then that the lowest is not above the highest
unfoldable pub assignment_of : DecisionTable → List ℕ → ℕ → ℕ → Result Statement LineFault
assignment_of t name lowest highest = do
  a ← alternative_of t name
  _ ← refuse faults.UnknownClass (is_no_class t lowest)
  _ ← refuse faults.UnknownClass (is_no_class t highest)
  _ ← refuse faults.BadInterval (nat_lt highest lowest)
  Ok (statements.Class a lowest highest)

-- an alternative that may belong to a class: the alternative, then the class
unfoldable pub member_of : DecisionTable → List ℕ → ℕ → Result ℕ LineFault
member_of t name h = do
  a ← alternative_of t name
  _ ← refuse faults.UnknownClass (is_no_class t h)
  Ok a

-- an alternative that may belong to any class of the table, which has one
unfoldable pub sorted_of : DecisionTable → List ℕ → Result ℕ LineFault
sorted_of t name = do
  a ← alternative_of t name
  _ ← refuse faults.UnknownClass (t.classes == 0)
  Ok a

-- the statement by its names
abbrev pub statement_of : DecisionTable → Named → Result Statement LineFault
statement_of t (Prefer a b) = pair_of t a b >>= λ p. Ok (statements.Prefer p.first p.second)
statement_of t (AtLeast a b) = pair_of t a b >>= λ p. Ok (statements.AtLeast p.first p.second)
statement_of t (Same a b) = pair_of t a b >>= λ p. Ok (statements.Same p.first p.second)
statement_of t (Stronger p q on) =
    strengths_of t p q on >>= λ x. Ok (statements.Stronger x.first x.second x.scope)
statement_of t (AsStrong p q on) =
    strengths_of t p q on >>= λ x. Ok (statements.AsStrong x.first x.second x.scope)
statement_of t (EqualStrength p q on) =
    strengths_of t p q on >>= λ x. Ok (statements.EqualStrength x.first x.second x.scope)
statement_of t (Class name lowest highest) = assignment_of t name lowest highest

-- the one question by its names, of a line that asks one
abbrev pub one_question : Result Question LineFault → Result (List Question) LineFault
one_question question = question >>= λ q. Ok (q ∷ [])

-- the questions that a line asks, in order, by its names
abbrev pub questions_of : DecisionTable → Asked → Result (List Question) LineFault
questions_of t Consistent = Ok (questions.Consistent ∷ [])
questions_of t (Necessary a b) =
    one_question (pair_of t a b >>= λ p. Ok (questions.Necessary p.first p.second))
questions_of t (Possible a b) =
    one_question (pair_of t a b >>= λ p. Ok (questions.Possible p.first p.second))
questions_of t (NecessaryStrength p q on) =
    one_question (strengths_of t p q on >>= λ x. Ok (questions.NecessaryStrength x.first x.second x.scope))
questions_of t (PossibleStrength p q on) =
    one_question (strengths_of t p q on >>= λ x. Ok (questions.PossibleStrength x.first x.second x.scope))
questions_of t (PossibleClass name h) =
    one_question (member_of t name h >>= λ a. Ok (questions.PossibleClass a h))
questions_of t (NecessaryClass name h) =
    one_question (member_of t name h >>= λ a. Ok (questions.NecessaryClass a h))
questions_of t (Classes name) =
    sorted_of t name >>= λ a. Ok (class_questions a t.classes)
questions_of t Relation =
    refuse faults.TooManyPairs (nat_lt MOST_RELATED (length t.alternatives))
    >>= λ _. Ok (relation_questions (length t.alternatives))
