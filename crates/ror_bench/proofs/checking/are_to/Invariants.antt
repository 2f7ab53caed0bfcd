use Rattle.std.proofs.Common.{◌≡◌, map, take}
use Rattle.ror_bench.proofs.checking.are_to.Given as goal

abbrev pub invariant-loop-place : goal.invariant-loop-place
invariant-loop-place l = map (λ x. x.question) (take l.place l.answers) ≡ take l.place l.questions
