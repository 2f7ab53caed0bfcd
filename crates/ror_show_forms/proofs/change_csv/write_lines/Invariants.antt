use Rattle.std.proofs.Common.{◌≡◌, ◌++◌, take}
use Rattle.std.specs.List.{flat_map}
use Rattle.ror_show_forms.specs.ChangeCsv.{csv_line}
use Rattle.ror_show_forms.proofs.change_csv.write_lines.Given as goal

abbrev pub invariant-pairs : goal.invariant-pairs
invariant-pairs l = l.text.items ≡ l.initial.text.items ++ flat_map (csv_line l.table l.front l.change) (take l.pair-index l.pairs)
