use Rattle.std.proofs.Common.{◌≡◌, ◌++◌, map, take}
use Rattle.ror_show_spreadsheet.specs.Notes.{shown_byte}
use Rattle.ror_show_spreadsheet.proofs.notes.write_shown.Given as goal

abbrev pub invariant-bytes : goal.invariant-bytes
invariant-bytes l = l.text.items ≡ l.initial.text.items ++ map shown_byte (take l.byte-index l.name)
