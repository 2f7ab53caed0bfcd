use Rattle.ror_table.proofs.RankLemmas.{ranks_have_levels, level-rank}
use Rattle.ror_table.proofs.laws.ranks_have_levels.Goals as goal

pub returns : goal.returns
returns c = record {
  each = λ t i r table within le. ranks_have_levels t i r table within le;
  of_alternative = λ t a i table there within. level-rank t a i table there within;
}
