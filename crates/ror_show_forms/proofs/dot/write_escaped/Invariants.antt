use Rattle.std.proofs.Common.{◌≡◌, ◌++◌, take}
use Rattle.std.specs.List.{flat_map}
use Rattle.ror_show_forms.specs.Dot.{escaped}
use Rattle.ror_show_forms.proofs.dot.write_escaped.Given as goal

abbrev pub invariant-bytes : goal.invariant-bytes
invariant-bytes l = l.text.items ≡ l.initial.text.items ++ flat_map (escaped) (take l.byte-index l.name)
