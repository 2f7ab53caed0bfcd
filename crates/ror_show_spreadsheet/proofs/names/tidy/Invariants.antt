use Rattle.std.proofs.Common.{◌≡◌, map, take}
use Rattle.ror_show_spreadsheet.specs.Names.{tidy_byte}
use Rattle.ror_show_spreadsheet.proofs.names.tidy.Given as goal

abbrev pub invariant-bytes : goal.invariant-bytes
invariant-bytes l = l.tidy.items ≡ map tidy_byte (take l.byte-index l.name)
