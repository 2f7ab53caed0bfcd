-- Solutions as value functions of a table.
use Rattle.std.specs.Prelude.{Bool, true, false, not, ◌&&◌, ◌==◌, nat_lt, List, [], ◌∷◌, length, Option, Some, None, if◌then◌else◌, ℤ, pos, unsigned_abs, int_lt}
use Rattle.std.specs.List.{list_any}
use Rattle.std.specs.Ordering.{int_eq}
use Rattle.ror_integers.specs.Vectors.{total}
use Rattle.ror_table.specs.Table.{DecisionTable, columns}
use Rattle.ror_system.specs.System.{sum_limit}
use Rattle.ror_value.specs.Value.{Normalised, ideal_value}
use Rattle.ror_proof.specs.declared.answer.Certificate.{Certificate}
use Rattle.ror_proof.specs.declared.answer.Certificate.TheVariants as certificates
use Rattle.ror_proof.specs.declared.answer.Part.{Part}
use Rattle.ror_proof.specs.declared.answer.Verdict.{Verdict}
use Rattle.ror_proof.specs.declared.answer.Verdict.TheVariants as verdicts

-- ---- one function

abbrev pub is_negative : ℤ → Bool
is_negative x = int_lt x (pos 0)

-- these are the steps of a value function of the table whose ideal value is at most 2^127 - 1
abbrev pub is_accepted : DecisionTable → List ℤ → Bool
is_accepted t w = length w == columns t && (not (list_any is_negative w)
    && (int_lt (pos 0) (total w) && nat_lt (unsigned_abs (ideal_value t w)) sum_limit))

-- the function with these steps, where they are such
abbrev pub function_of : DecisionTable → List ℤ → Option Normalised
function_of t w = if is_accepted t w then Some (record { steps = w; total = ideal_value t w }) else None

-- ---- the solutions of an answer

-- a solution is one
abbrev pub steps_in : Certificate → Option (List ℤ)
steps_in (certificates.Solution x) = Some x.steps
steps_in (certificates.Multipliers m) = None

abbrev pub parts_of : Verdict → List Part
parts_of (verdicts.Yes proof) = proof.parts
parts_of (verdicts.No proof) = proof.parts
parts_of (verdicts.Contradiction proof) = proof.parts
parts_of (verdicts.Wide system note) = []

-- two solutions are the same numbers
abbrev pub same_numbers : List ℤ → List ℤ → Bool
same_numbers [] [] = true
same_numbers (x ∷ xs) (y ∷ ys) = int_eq x y && same_numbers xs ys
same_numbers _ _ = false
