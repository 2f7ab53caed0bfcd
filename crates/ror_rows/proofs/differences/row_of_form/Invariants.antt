use Rattle.std.proofs.Common.{◌≡◌}
use Rattle.std.specs.List.{flat_map, range_with_len}
use Rattle.ror_rows.proofs.FormLemmas.{form_block}
use Rattle.ror_rows.proofs.differences.row_of_form.Given as goal

abbrev pub invariant-loop-i : goal.invariant-loop-i
invariant-loop-i l = l.entries.items ≡ flat_map (form_block l.table l.form) (range_with_len 0 l.i)
