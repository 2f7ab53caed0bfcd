use Rattle.std.proofs.Common.{◌≡◌, true}
use Rattle.ror_show_hints.specs.Forms.{is_one_line}
use Rattle.ror_show_hints.proofs.said.write_plain.Given as goal

abbrev pub invariant-bytes : goal.invariant-bytes
invariant-bytes l = is_one_line l.text.items ≡ true
