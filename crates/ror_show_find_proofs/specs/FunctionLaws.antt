-- What holds of the functions that are shown, and of the numbers that are shown of them.
use Rattle.std.specs.Prelude.{◌≡◌, ◌≢◌, ◌↔◌, ℕ, ◌+◌, ◌*◌, ◌<◌, ◌≤◌, true, false, List, length, map, Contains, Option, Some, None, slice_get, ℤ, pos}
use Rattle.std.specs.List.{range_with_len}
use Rattle.ror_integers.specs.Vectors.{total}
use Rattle.ror_statement.specs.declared.statement.Statement.{Statement}
use Rattle.ror_statement.specs.declared.question.QuestionKind.{QuestionKind}
use Rattle.ror_statement.specs.declared.question.QuestionKind.TheVariants.{Plain, Any, Every}
use Rattle.ror_statement.specs.declared.question.Property.{Property}
use Rattle.ror_statement.specs.Questions.{kind_of, property_of}
use Rattle.ror_table.specs.Table.{DecisionTable, IsTable, steps}
use Rattle.ror_value.specs.Value.{marginal, ideal_value, Normalised}
use Rattle.ror_value.specs.ValueFaults.{IsAcceptedFunction}
use Rattle.ror_value.specs.Over.{IsLawfulIn}
use Rattle.ror_value.specs.Meaning.{IsCompatible, Has}
use Rattle.ror_proof.specs.declared.answer.Answer.{Answer}
use Rattle.ror_show_find_proofs.specs.declared.function_places.Place.{Place}
use Rattle.ror_show_find_proofs.specs.declared.share.Share.{Share}
use Rattle.ror_show_find_proofs.specs.Functions.{function_of}
use Rattle.ror_show_find_proofs.specs.Levels.{share_at, weight_of, begins_run, last_of_run}
use Rattle.ror_show_find_proofs.specs.Places.{base_at, base_before, part_steps, steps_for, places}
use Rattle.ror_show_find_proofs.specs.Shares.{IsShare, thousandths, is_rounded}
-- ---- numbers
use Rattle.ror_show_ground.specs.Sound.{IsSoundAnswer}

-- what is shown of a level is its marginal value, and the value of all best levels
pub record IsMarginal (t : DecisionTable) (w : List ℤ) (f : Normalised) (i r : ℕ) : Type 0 where
  pub part : pos (share_at t f i r).part ≡ marginal t w i r
  pub whole : pos (share_at t f i r).whole ≡ ideal_value t w
  pub share : IsShare (share_at t f i r)

-- Numbers are shown as a function exactly where they are the steps of one whose value of all best levels is at most 2^127 - 1. Then what
-- is shown of levels are their marginal values, and those of the best levels, the weights, sum to that value.
pub record ShownAreValues : Type 0 where
  pub shown : (t : DecisionTable) (w : List ℤ)
      → ((f : Normalised) × (function_of t w ≡ Some f)) ↔ IsAcceptedFunction t w
  pub marginal : (t : DecisionTable) (w : List ℤ) (f : Normalised) (i r : ℕ) → IsTable t → function_of t w ≡ Some f
      → i < length t.criteria → IsMarginal t w f i r
  pub weights : (t : DecisionTable) (w : List ℤ) (f : Normalised) → IsTable t → function_of t w ≡ Some f
      → total (map (λ i. pos (weight_of t f i).part) (range_with_len 0 (length t.criteria))) ≡ ideal_value t w

-- no number of thousandths is nearer to the share, of two that are equally near it is the greater, and it is marked exactly where it
-- isn't the share
pub record IsNearest (s : Share) : Type 0 where
  pub not_above : 2 * (thousandths s * s.whole) ≤ 2 * (1000 * s.part) + s.whole
  pub not_below : 2 * (1000 * s.part) < 2 * (thousandths s * s.whole) + s.whole
  pub marked : (is_rounded s ≡ false) ↔ (thousandths s * s.whole ≡ 1000 * s.part)

abbrev pub RoundedAreNearest : Type 0
RoundedAreNearest = (s : Share) → IsShare s → IsNearest s

-- ---- levels

-- each level stands in the line of a run, and the levels of a run are worth the same
pub record EachLevelStands : Type 0 where
  pub each : (t : DecisionTable) (f : Normalised) (i r : ℕ) → r ≤ steps t i
      → (first : ℕ) × (first ≤ r) × (begins_run t f i first ≡ true) × (r ≤ last_of_run t f i first)
  pub same : (t : DecisionTable) (f : Normalised) (i first r : ℕ) → first ≤ r → r ≤ last_of_run t f i first
      → share_at t f i r ≡ share_at t f i first

-- ---- which functions

-- a base that the answer before hasn't
pub record IsNewBase (before base : Option (List ℤ)) : Type 0 where
  pub steps : List ℤ
  pub is : base ≡ Some steps
  pub other : before ≢ Some steps

-- a part that is a solution
pub record IsSolutionPart (part : Option (List ℤ)) : Type 0 where
  pub steps : List ℤ
  pub is : part ≡ Some steps

abbrev pub IsShownFor : List Answer → ℕ → Option ℕ → Type 0
IsShownFor xs k None = IsNewBase (base_before xs k) (base_at xs k)
IsShownFor xs k (Some j) = IsSolutionPart (part_steps xs k j)

-- what is shown are the bases that aren't those of the answer before, and the parts that are solutions
abbrev pub EachFunctionIsShown : Type 0
EachFunctionIsShown = (xs : List Answer) (p : Place)
    → Contains (places xs) p ↔ ((p.answer < length xs) × IsShownFor xs p.answer p.part)

-- what a function is to a question: against what is asked of every function, or one of which it holds
abbrev pub Decides : DecisionTable → List Statement → List ℤ → QuestionKind → Property → Type 0
Decides t list w Every p = Has t list w p → ⊥
Decides t list w Any p = Has t list w p
Decides t list w Plain p = ⊥

-- a function agrees with the statements, and that of a part decides the question besides
abbrev pub IsMeant : DecisionTable → List Statement → Answer → List ℤ → Option ℕ → Type 0
IsMeant t list x w None = IsCompatible t list w
IsMeant t list x w (Some j) = IsCompatible t list w × Decides t list w (kind_of x.question) (property_of x.question)

abbrev pub FunctionsAreMeant : Type 0
FunctionsAreMeant = (t : DecisionTable) (list : List Statement) (xs : List Answer) (k : ℕ) (part : Option ℕ) (x : Answer) (w : List ℤ)
    → IsLawfulIn t list → slice_get xs k ≡ Some x → IsSoundAnswer t list x → steps_for xs k part ≡ Some w
    → IsMeant t list x w part
