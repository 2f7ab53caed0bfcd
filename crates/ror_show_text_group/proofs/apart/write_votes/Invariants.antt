use Rattle.std.proofs.Common.{◌≡◌, ◌++◌}
use Rattle.std.specs.List.{flat_map, range_with_len}
use Rattle.ror_show_text_group.specs.Apart.{vote_text}
use Rattle.ror_show_text_group.proofs.apart.write_votes.Given as goal

abbrev pub invariant-loop-k : goal.invariant-loop-k
invariant-loop-k l = l.text.items ≡ l.fn.text.items ++ flat_map (vote_text l.judges l.fn.part l.fn.pair) (range_with_len 0 l.k)
