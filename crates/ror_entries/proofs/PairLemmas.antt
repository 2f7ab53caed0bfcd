-- The pair at a place.
use Rattle.std.proofs.Common.{◌≡◌, ℕ, List, length, Some, sym, ap, ◌∙◌}
use Rattle.std.specs.Prelude.{slice_get}
use Rattle.ror_text.proofs.Everywhere.{all_at}
use Rattle.ror_table.specs.Table.{DecisionTable}
use Rattle.ror_relation.specs.Pairs.{AreDifferentOf}
use Rattle.ror_relation.proofs.PairLemmas.{ordered_pairs-different}
use Rattle.ror_entries.specs.Pairs.{pairs_of}

-- is one of two alternatives of the table
pub pair_there : (t : DecisionTable) (pairs : List (ℕ × ℕ)) (place : ℕ) (p : ℕ × ℕ) → pairs ≡ pairs_of t → slice_get pairs place ≡ Some p → AreDifferentOf (length t.alternatives) p
pair_there t pairs place p same at = all_at (AreDifferentOf (length t.alternatives)) (pairs_of t) place p (ordered_pairs-different (length t.alternatives)) (ap (λ (ps : List (ℕ × ℕ)). slice_get ps place) (sym same) ∙ at)
