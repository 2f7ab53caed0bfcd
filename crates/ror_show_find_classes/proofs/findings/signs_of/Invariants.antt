use Rattle.std.proofs.Common.{◌≡◌, ◌+◌, map}
use Rattle.std.specs.List.{range_with_len}
use Rattle.ror_show_find_classes.specs.Signs.{sign_of_class}
use Rattle.ror_show_find_classes.proofs.findings.signs_of.Given as goal

abbrev pub invariant-loop-h : goal.invariant-loop-h
invariant-loop-h l = l.made.items ≡ map (λ h. sign_of_class l.answers (h + 1)) (range_with_len 0 l.h)
