use Rattle.std.proofs.Common.{◌≡◌, take}
use Rattle.std.specs.List.{flat_map}
use Rattle.ror_show_find_proofs.specs.Linear.{weak_forms_for}
use Rattle.ror_show_find_proofs.proofs.compared.weak_forms.Given as goal

abbrev pub invariant-loop-comparison : goal.invariant-loop-comparison
invariant-loop-comparison l = l.made.items ≡ flat_map (λ c. weak_forms_for c.relation c.form) (take l.comparison-index l.comparisons)
