use Rattle.std.proofs.Common.{◌≡◌, drop}
use Rattle.ror_group.specs.Combining.{one_says}
use Rattle.ror_group.proofs.quartet.one_says.Given as goal

abbrev pub invariant-answers : goal.invariant-answers
invariant-answers l = one_says l.word (drop l.answer-index l.answers) ≡ one_says l.word l.answers
