use Rattle.std.proofs.Common.{◌≡◌, drop}
use Rattle.ror_group.specs.Combining.{every_second, one_says}
use Rattle.ror_group.proofs.quartet.one_of_every_second_says.Given as goal

abbrev pub invariant-answers : goal.invariant-answers
invariant-answers l = one_says l.word (every_second l.taken (drop l.answer-index l.answers)) ≡ one_says l.word (every_second l.first l.answers)
