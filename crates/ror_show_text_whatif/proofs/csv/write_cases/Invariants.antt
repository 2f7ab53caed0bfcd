use Rattle.std.proofs.Common.{◌≡◌, ◌++◌, take}
use Rattle.ror_show_text_whatif.specs.Csv.{cases_values}
use Rattle.ror_show_text_whatif.proofs.csv.write_cases.Given as goal

abbrev pub invariant-cases : goal.invariant-cases
invariant-cases l = l.text.items ≡ l.initial.text.items ++ cases_values l.front l.asks (take l.case-index l.cases)
