use Rattle.std.proofs.Common.{◌≡◌, ◌++◌}
use Rattle.std.specs.List.{flat_map, range_with_len}
use Rattle.ror_show_forms.specs.ClassCsv.{class_value}
use Rattle.ror_show_forms.proofs.class_csv.write_each_class.Given as goal

abbrev pub invariant-loop-h : goal.invariant-loop-h
invariant-loop-h l = l.text.items ≡ l.fn.text.items ++ flat_map (class_value l.front l.found) (range_with_len 0 l.h)
