use Rattle.std.proofs.Common.{◌≡◌, map, take}
use Rattle.ror_show_find_group.specs.Pairs.{alone_of}
use Rattle.ror_show_find_group.proofs.pairs.alone_pairs.Given as goal

abbrev pub invariant-loop-judge : goal.invariant-loop-judge
invariant-loop-judge l = l.made.items ≡ map (alone_of l.judges l.size) (take l.judge-index l.judges)
