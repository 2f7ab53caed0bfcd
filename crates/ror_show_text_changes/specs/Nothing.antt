-- Where no function agreed with what stood before, or none agrees now, nothing is compared.
use Rattle.std.specs.Prelude.{ℕ, Bool, true, false, List, codes}

abbrev pub nothing_text : Bool → Bool → List ℕ
nothing_text true true = codes "\n  no function agreed before, and none agrees now: nothing to compare\n"
nothing_text true false = codes "\n  no function agreed before: nothing to compare\n"
nothing_text false now = codes "\n  no function agrees now: nothing to compare\n"
