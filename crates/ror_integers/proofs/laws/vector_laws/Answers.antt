use Rattle.ror_integers.proofs.Dots.{dot_comm, dot-sum_of_rows_left, dot-scaled_row_left, dot-row_difference_left, dot-append, dot-ones_left, dot-le-absolute_dot}
use Rattle.ror_integers.proofs.Rows.{entry-sum_of_rows, entry-scaled_row, entry-row_difference, entry-weighted, dot-weighted}
use Rattle.ror_integers.proofs.Signs.{dot_le, dot_nonnegative, dot_positive_at}
use Rattle.ror_integers.proofs.laws.vector_laws.Goals as goal

pub returns : goal.returns
returns c = record {
  entry_of_sum = entry-sum_of_rows;
  entry_of_scaled = entry-scaled_row;
  entry_of_difference = entry-row_difference;
  entry_of_weighted = entry-weighted;
  dot_commutes = dot_comm;
  dot_of_sum = dot-sum_of_rows_left;
  dot_of_scaled = dot-scaled_row_left;
  dot_of_difference = dot-row_difference_left;
  dot_of_appended = dot-append;
  dot_of_ones = dot-ones_left;
  sums_exchange = dot-weighted;
  dot_within = dot-le-absolute_dot;
  dot_grows = dot_le;
  dot_not_negative = dot_nonnegative;
  dot_positive = dot_positive_at;
}
