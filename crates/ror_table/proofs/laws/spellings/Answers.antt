use Rattle.ror_table.proofs.SpellingLemmas.{WritesWholeAmount-read, read-WritesWholeAmount, WritesReal-read, read-WritesReal, WritesAmount-read, read-WritesAmount}
use Rattle.ror_table.proofs.laws.spellings.Goals as goal

pub returns : goal.returns
returns c = record {
  whole = λ word p. (WritesWholeAmount-read word p, read-WritesWholeAmount word p);
  real = λ word p. (WritesReal-read word p, read-WritesReal word p);
  amount = λ word p. (WritesAmount-read word p, read-WritesAmount word p);
}
