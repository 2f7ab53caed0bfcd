-- Sets of other alternatives, the system of the functions by which none of a set counts, and conflicts: sets of which some one
-- counts by every compatible function.
use Rattle.std.specs.Prelude.{◌≡◌, ℕ, ◌+◌, Bool, true, false, not, ◌&&◌, ◌==◌, nat_eq, nat_le, nat_lt, List, [], ◌∷◌, length, map, Contains, ℤ}
use Rattle.std.specs.List.{filter}
use Rattle.std.specs.Set.{is_member}
use Rattle.ror_statement.specs.declared.comparison.Form.TheVariants.{Value}
use Rattle.ror_statement.specs.declared.comparison.Comparison.{Comparison}
use Rattle.ror_statement.specs.declared.statement.Statement.{Statement}
use Rattle.ror_table.specs.Table.{DecisionTable}
use Rattle.ror_value.specs.Meaning.{IsCompatible}
use Rattle.ror_system.specs.System.{LinearSystem}
use Rattle.ror_system.specs.Acceptance.{IsAcceptedSolution, AreAcceptedMultipliers}
use Rattle.ror_system.specs.declared.accept.Solution.{Solution}
use Rattle.ror_rows.specs.declared.extra.Extra.{Extra}
use Rattle.ror_rows.specs.Rows.{extended_by, comparison_of_extra}
use Rattle.ror_ranks.specs.declared.extreme.Side.{Side}
use Rattle.ror_ranks.specs.declared.extreme.Side.TheVariants.{Best, Worst}
use Rattle.ror_ranks.specs.declared.extreme.Conflict.{Conflict}
use Rattle.ror_ranks.specs.Ranks.{others, counts}

-- ---- sets

-- among n alternatives, ones other than a, each behind the one before, and the first at this place or behind it
abbrev pub are_others_from : ℕ → ℕ → ℕ → List ℕ → Bool
are_others_from n a from [] = true
are_others_from n a from (b ∷ bs) = nat_le from b && nat_lt b n && not (b == a) && are_others_from n a (b + 1) bs

-- a set of other alternatives of the table, in its order
abbrev pub are_others : DecisionTable → ℕ → List ℕ → Bool
are_others t a members = are_others_from (length t.alternatives) a 0 members

-- the others that are none of these
abbrev pub others_but : DecisionTable → ℕ → List ℕ → List ℕ
others_but t a except = filter (λ b. not (is_member nat_eq except b)) (others t a)

-- the others that are some of these
abbrev pub others_among : DecisionTable → ℕ → List ℕ → List ℕ
others_among t a some = filter (λ b. is_member nat_eq some b) (others t a)

-- ---- rows and systems

-- That the second alternative doesn't count: for the best rank the first is worth at least as much, for the worst rank the second is
-- worth more.
abbrev pub row_on : Side → ℕ → ℕ → Extra
row_on Best a b = record { form = Value a b; strict = false }
row_on Worst a b = record { form = Value b a; strict = true }

abbrev pub rows_on : Side → ℕ → List ℕ → List Extra
rows_on side a members = map (row_on side a) members

abbrev pub comparisons_on : Side → ℕ → List ℕ → List Comparison
comparisons_on side a members = map comparison_of_extra (rows_on side a members)

-- The system of the functions by which none of these counts: the base, that of a list of statements, with the rows that say so. Its
-- solutions are the functions that are compatible with the list and by which none of them counts.
abbrev pub side_system : DecisionTable → LinearSystem → Side → ℕ → List ℕ → LinearSystem
side_system t base side a members = extended_by t base (comparisons_on side a members)

-- ---- conflicts

-- by every compatible function some one of the members counts
abbrev pub IsConflict : DecisionTable → List Statement → Side → ℕ → List ℕ → Type 0
IsConflict t list side a members = (w : List ℤ) → IsCompatible t list w
    → (b : ℕ) × Contains members b × (counts t w side a b ≡ true)

-- the members are a set of others, and over the base the multipliers refute that none of them counts
pub record IsProvedConflict (t : DecisionTable) (base : LinearSystem) (side : Side) (a : ℕ) (c : Conflict) : Type 0 where
  pub others : are_others t a c.members ≡ true
  pub refuted : AreAcceptedMultipliers (side_system t base side a c.members) c.multipliers.weak c.multipliers.strict

-- ---- functions by which few count

-- the exceptions are a set of others, and the solution is one of the base by which none of the rest counts
pub record IsReached (t : DecisionTable) (base : LinearSystem) (side : Side) (a : ℕ) (except : List ℕ) (x : Solution) : Type 0 where
  pub others : are_others t a except ≡ true
  pub accepted : IsAcceptedSolution (side_system t base side a (others_but t a except)) x.steps
