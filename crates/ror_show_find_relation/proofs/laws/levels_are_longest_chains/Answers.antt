use Rattle.ror_show_find_relation.proofs.LevelLemmas.{chain-of-level, chain-below-level, endless-chains}
use Rattle.ror_show_find_relation.proofs.laws.levels_are_longest_chains.Goals as goal

pub returns : goal.returns
returns c r levels those = record {
  some = λ a n is. chain-of-level r levels those n a is;
  longest = λ a k n is chain. chain-below-level r levels those n a k is chain;
  endless = λ a n within none. endless-chains r levels those n a within none;
}
