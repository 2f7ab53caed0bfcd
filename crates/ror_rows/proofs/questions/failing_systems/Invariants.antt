use Rattle.std.proofs.Common.{◌≡◌, [], ◌∷◌, map, take}
use Rattle.ror_rows.specs.Rows.{comparison_of_extra, extras_of, negation_of}
use Rattle.ror_rows.proofs.questions.failing_systems.Given as goal

abbrev pub invariant-loop-condition : goal.invariant-loop-condition
invariant-loop-condition l = map extras_of l.systems.items ≡ map (map comparison_of_extra) (map (λ e. negation_of e ∷ []) (take l.condition-index l.conditions))
