use Rattle.std.proofs.Common.{◌≡◌, ◌++◌, take}
use Rattle.std.specs.List.{flat_map}
use Rattle.ror_show_kit.specs.Fields.{doubled}
use Rattle.ror_show_kit.proofs.fields.write_doubled.Given as goal

abbrev pub invariant-bytes : goal.invariant-bytes
invariant-bytes l = l.text.items ≡ l.initial.text.items ++ flat_map (doubled) (take l.byte-index l.word)
