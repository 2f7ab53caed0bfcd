use Rattle.std.proofs.Common.{◌≡◌, ◌++◌, drop, map}
use Rattle.std.specs.Fmt.{decimal}
use Rattle.ror_proof.specs.Printing.{spaced}
use Rattle.ror_show_forms.proofs.print.write_numbers.Given as goal

abbrev pub invariant-numbers : goal.invariant-numbers
invariant-numbers l =
    l.text.items ++ spaced (map decimal (drop l.number-index l.numbers)) ≡ l.initial.text.items ++ spaced (map decimal l.numbers)
