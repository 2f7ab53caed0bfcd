use Rattle.std.proofs.Common.{◌≡◌, true}
use Rattle.ror_show_hints.specs.Forms.{is_one_line}
use Rattle.ror_show_hints.proofs.said.write_all_plain.Given as goal

abbrev pub invariant-pieces : goal.invariant-pieces
invariant-pieces l = is_one_line l.text.items ≡ true
