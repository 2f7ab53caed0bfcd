use Rattle.ror_rows.proofs.Entries.{length-value_row, entry-value_row_one, entry-value_row_zero, entry-value_row_weighted}
use Rattle.ror_rows.proofs.laws.value_row_entries.Goals as goal

pub returns : goal.returns
returns c = record {
  width = λ t a within. length-value_row t a;
  one = entry-value_row_one;
  zero = λ t a i k within. entry-value_row_zero t a i k;
  weighted = λ t a i within. entry-value_row_weighted t a i;
}
