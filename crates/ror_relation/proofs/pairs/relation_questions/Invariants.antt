use Rattle.std.proofs.Common.{◌≡◌, take}
use Rattle.std.specs.List.{flat_map}
use Rattle.ror_relation.specs.Pairs.{ordered_pairs, pair_questions}
use Rattle.ror_relation.proofs.pairs.relation_questions.Given as goal

abbrev pub invariant-loop-pair : goal.invariant-loop-pair
invariant-loop-pair l = l.questions.items ≡ flat_map pair_questions (take l.pair-index (ordered_pairs l.alternatives))
