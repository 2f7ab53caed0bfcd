use Rattle.ror_table.proofs.AmountLemmas.{amounts_made, amounts_again, amounts_refused, same_is_equal_products, amounts_total, not_same, is_smaller-one_way, is_smaller-trans}
use Rattle.ror_table.proofs.laws.amounts_are_fractions.Goals as goal

pub returns : goal.returns
returns c = record {
  made = amounts_made;
  made_again = amounts_again;
  refused = amounts_refused;
  same = same_is_equal_products;
  total = amounts_total;
  one_way = λ p q h. (not_same p q h, is_smaller-one_way p q h);
  transitive = is_smaller-trans;
}
