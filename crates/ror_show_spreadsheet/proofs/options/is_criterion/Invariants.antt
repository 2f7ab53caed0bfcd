use Rattle.std.proofs.Common.{◌≡◌, drop}
use Rattle.std.specs.List.{list_any}
use Rattle.std.specs.Str.{bytes_eq}
use Rattle.ror_show_spreadsheet.proofs.options.is_criterion.Given as goal

abbrev pub invariant-loop-place : goal.invariant-loop-place
invariant-loop-place l = list_any (λ cell. bytes_eq cell l.name) (drop l.place l.head) ≡ list_any (λ cell. bytes_eq cell l.name) (drop 1 l.head)
