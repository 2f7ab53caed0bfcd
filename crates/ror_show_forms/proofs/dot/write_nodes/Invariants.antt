use Rattle.std.proofs.Common.{◌≡◌, ◌++◌}
use Rattle.std.specs.List.{flat_map, range_with_len}
use Rattle.ror_show_forms.specs.Dot.{node}
use Rattle.ror_show_forms.proofs.dot.write_nodes.Given as goal

abbrev pub invariant-loop-a : goal.invariant-loop-a
invariant-loop-a l = l.text.items ≡ l.fn.text.items ++ flat_map (node l.table) (range_with_len 0 l.a)
