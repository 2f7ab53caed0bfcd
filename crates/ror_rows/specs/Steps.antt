-- The row of a form, criterion by criterion and column by column.
use Rattle.std.specs.Prelude.{ℕ, ◌≤◌, ℤ, ◌-ℤ◌}
use Rattle.ror_integers.specs.Vectors.{entry}
use Rattle.ror_statement.specs.declared.comparison.Form.{Form}
use Rattle.ror_statement.specs.declared.comparison.Form.TheVariants.{Value, Strength}
use Rattle.ror_table.specs.Blocks.{block}
use Rattle.ror_table.specs.Table.{DecisionTable, rank}
use Rattle.ror_rows.specs.declared.differences.Ranks.{Ranks}
use Rattle.ror_rows.specs.Rows.{rank_in}

-- the ranks on a criterion of the alternatives that a form names
abbrev pub ranks_of : DecisionTable → Form → ℕ → Ranks
ranks_of t (Value a b) i = record { first = (rank t a i, 0); second = (rank t b i, 0) }
ranks_of t (Strength p q s) i = record {
  first = (rank_in t s p.first i, rank_in t s p.second i);
  second = (rank_in t s q.first i, rank_in t s q.second i);
}

-- none passes the criterion's steps
pub record AreRanksWithin (steps : ℕ) (r : Ranks) : Type 0 where
  pub first : (r.first.0 ≤ steps) × (r.first.1 ≤ steps)
  pub second : (r.second.0 ≤ steps) × (r.second.1 ≤ steps)

-- the entry at a column of the criterion, counted from 0
abbrev pub entry_at : DecisionTable → ℕ → Ranks → ℕ → ℤ
entry_at t i r k =
    (entry (block t i r.first.0) k -ℤ entry (block t i r.first.1) k)
    -ℤ (entry (block t i r.second.0) k -ℤ entry (block t i r.second.1) k)
