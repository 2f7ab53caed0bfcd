-- Where a value function rises, in words.
use Rattle.std.specs.Prelude.{ℕ, ◌+◌, ◌==◌, List, [], ◌++◌, codes, decimal, length, Option, Some, None, if◌then◌else◌, ℤ, unsigned_abs, ◌-ℤ◌}
use Rattle.std.specs.List.{flat_map, range_with_len}
use Rattle.std.specs.Option.{option_and_then}
use Rattle.ror_show_kit.specs.Amounts.{amount_text}
use Rattle.ror_table.specs.Table.{DecisionTable, criterion_id_of, is_linear, level, steps}
use Rattle.ror_value.specs.Value.{marginal, Normalised}
use Rattle.ror_proof.specs.Reading.{base_of}
use Rattle.ror_proof.specs.declared.answer.Verdict.{Verdict}
use Rattle.ror_show_find_proofs.specs.Functions.{function_of, steps_in}

-- what the level of one rank is worth more than that of another, which isn't better
abbrev pub gain : DecisionTable → Normalised → ℕ → ℕ → ℕ → ℕ
gain t f i r s = unsigned_abs (marginal t f.steps i s -ℤ marginal t f.steps i r)

abbrev pub on_text : DecisionTable → ℕ → List ℕ
on_text t i = codes " on " ++ criterion_id_of t i ++ codes " "

-- the levels of two ranks, the worse one first
abbrev pub from_text : DecisionTable → ℕ → ℕ → ℕ → List ℕ
from_text t i r s = amount_text (level t i r) ++ codes " to " ++ amount_text (level t i s)

abbrev pub levels_text : DecisionTable → ℕ → ℕ → ℕ → List ℕ
levels_text t i r s = on_text t i ++ from_text t i r s

abbrev pub by_text : ℕ → List ℕ
by_text n = codes " by " ++ decimal n ++ codes ","

abbrev pub risen : DecisionTable → ℕ → ℕ → ℕ → ℕ → List ℕ
risen t i r s n = levels_text t i r s ++ by_text n

-- nothing where they are worth the same
abbrev pub rise_by : DecisionTable → ℕ → ℕ → ℕ → ℕ → List ℕ
rise_by t i r s n = if n == 0 then [] else risen t i r s n

abbrev pub rise : DecisionTable → Normalised → ℕ → ℕ → ℕ → List ℕ
rise t f i r s = rise_by t i r s (gain t f i r s)

-- from the level of a rank to the next better one
abbrev pub step_rise : DecisionTable → Normalised → ℕ → ℕ → List ℕ
step_rise t f i r = rise t f i r (r + 1)

abbrev pub step_rises : DecisionTable → Normalised → ℕ → List ℕ
step_rises t f i = flat_map (step_rise t f i) (range_with_len 0 (steps t i))

abbrev pub linear_risen : DecisionTable → ℕ → ℕ → List ℕ
linear_risen t i n = levels_text t i 0 (steps t i) ++ codes " (linear)" ++ by_text n

abbrev pub linear_by : DecisionTable → ℕ → ℕ → List ℕ
linear_by t i n = if n == 0 then [] else linear_risen t i n

-- from the worst level of a linear criterion to the best
abbrev pub linear_rise : DecisionTable → Normalised → ℕ → List ℕ
linear_rise t f i = linear_by t i (gain t f i 0 (steps t i))

abbrev pub rises_on : DecisionTable → Normalised → ℕ → List ℕ
rises_on t f i = if is_linear t i then linear_rise t f i else step_rises t f i

-- on all criteria, in their order
abbrev pub all_rises : DecisionTable → Normalised → List ℕ
all_rises t f = flat_map (rises_on t f) (range_with_len 0 (length t.criteria))

abbrev pub nowhere_else : List ℕ
nowhere_else = codes " and nowhere else"

abbrev pub function_rises : DecisionTable → Normalised → List ℕ
function_rises t f = codes ", which rises" ++ all_rises t f ++ nowhere_else

abbrev pub found_rises : DecisionTable → Option Normalised → List ℕ
found_rises t None = []
found_rises t (Some f) = function_rises t f

unfoldable pub rises_by : DecisionTable → List ℤ → List ℕ
rises_by t w = found_rises t (function_of t w)

-- the solution of the statements alone in a verdict's proof
abbrev pub agreeing : Verdict → Option (List ℤ)
agreeing v = option_and_then steps_in (base_of v)

abbrev pub rises_for : DecisionTable → Option (List ℤ) → List ℕ
rises_for t None = []
rises_for t (Some w) = rises_by t w

-- of the function that agrees with the statements of an answer
abbrev pub rises_text : DecisionTable → Verdict → List ℕ
rises_text t v = rises_for t (agreeing v)
