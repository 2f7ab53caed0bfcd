-- What the rows come to that a refutation multiplies, and what is used besides them.
-- ---- the refutation of an answer
use Rattle.std.specs.Prelude.{ℕ, Bool, ◌&&◌, ◌==◌, nat_lt, List, [], ◌++◌, length, map, unwrap_or, slice_get, Option, None, Some, ℤ, pos, int_lt, true, false}
use Rattle.std.specs.List.{range_with_len}
use Rattle.std.specs.Option.{option_map}
use Rattle.ror_integers.specs.Vectors.{dot, absolute_dot, entry, column}
use Rattle.ror_statement.specs.declared.comparison.Comparison.{Comparison}
use Rattle.ror_statement.specs.declared.statement.Statement.{Statement}
use Rattle.ror_statement.specs.declared.question.Question.{Question}
use Rattle.ror_table.specs.Table.{DecisionTable}
use Rattle.ror_system.specs.System.{LinearSystem, sum_limit}
use Rattle.ror_system.specs.Acceptance.{rows_of}
use Rattle.ror_system.specs.declared.accept.Multipliers.{Multipliers}
use Rattle.ror_rows.specs.Rows.{system_for, systems_of_question}
use Rattle.ror_proof.specs.declared.answer.Certificate.{Certificate}
use Rattle.ror_proof.specs.declared.answer.Proof.{Proof}
use Rattle.ror_proof.specs.declared.answer.Verdict.{Verdict}
use Rattle.ror_proof.specs.declared.answer.Verdict.TheVariants as verdicts

abbrev pub first_part : Proof → Option Certificate
first_part proof = option_map (λ x. x.body) (slice_get proof.parts 0)

-- the certificate that refutes: that of the base where there is a contradiction, and else that of the question's one system
abbrev pub refutation : Verdict → Option Certificate
refutation (verdicts.Contradiction proof) = Some proof.base
refutation (verdicts.Yes proof) = first_part proof
refutation (verdicts.No proof) = first_part proof
refutation (verdicts.Wide system note) = None

-- what the question's first system asks of functions besides the statements
abbrev pub first_asked : List Statement → Question → List Comparison
first_asked list q = unwrap_or (slice_get (systems_of_question list q) 0) []

-- what is asked so in the system that is refuted: nothing where the statements contradict each other
abbrev pub asked_besides : List Statement → Question → Verdict → List Comparison
asked_besides list q (verdicts.Contradiction proof) = []
asked_besides list q _ = first_asked list q

-- the system that is refuted
abbrev pub refuted : DecisionTable → List Statement → Question → Verdict → LinearSystem
refuted t list q v = system_for t list (asked_besides list q v)

-- ---- sums

-- there is a multiplier for each row
abbrev pub is_over : LinearSystem → Multipliers → Bool
is_over s m = length m.weak == length s.weak && length m.strict == length s.strict

-- what a column sums up to, each entry times its row's multiplier, and what the absolute values do
abbrev pub sum_at : LinearSystem → Multipliers → ℕ → ℤ
sum_at s m j = dot (m.weak ++ m.strict) (column (rows_of s) j)

abbrev pub width_at : LinearSystem → Multipliers → ℕ → ℕ
width_at s m j = absolute_dot (m.weak ++ m.strict) (column (rows_of s) j)

-- ---- what is used besides the rows

-- a column's sum is below 0, so it is used that the function's number there isn't: that better is never worth less
abbrev pub is_used : LinearSystem → Multipliers → ℕ → Bool
is_used s m j = nat_lt (width_at s m j) sum_limit && int_lt (sum_at s m j) (pos 0)

-- the same of each column
unfoldable pub used_columns : LinearSystem → Multipliers → List Bool
used_columns s m = map (is_used s m) (range_with_len 0 s.columns)

-- the first strict row is among those that are multiplied, so it is used that the function's numbers aren't all 0
abbrev pub is_positive_used : Multipliers → Bool
is_positive_used m = int_lt (pos 0) (entry m.strict 0)

abbrev pub is_clash : Verdict → Bool
is_clash (verdicts.Contradiction proof) = true
is_clash _ = false
