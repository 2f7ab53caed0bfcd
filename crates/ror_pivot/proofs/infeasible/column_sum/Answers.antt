-- The sum of both parts is that of the column of all rows.
use Rattle.std.proofs.Common.{◌++◌, map, pos, ap, ◌∙◌, subst}
use Rattle.std.proofs.lemmas.List.{length-map}
use Rattle.ror_integers.specs.Vectors.{absolute_dot, column}
use Rattle.ror_word.specs.Within.{GivesExact}
use Rattle.ror_system.specs.Acceptance.{rows_of}
use Rattle.ror_system.proofs.Totals.{within_widths}
use Rattle.ror_pivot.proofs.SumLemmas.{none_given}
use Rattle.ror_pivot.proofs.MultiplierLemmas.{column_of_both, first_part_over}
use Rattle.ror_pivot.proofs.infeasible.column_sum.Goals as goal

pub returns-in_err-weak_sum : goal.returns-in_err-weak_sum
returns-in_err-weak_sum g c =
    let value = g.W.Word.value in
    let most = g.W.Word.most in
    let s = c.args.s.now in
    let weak = map value c.args.weak.now in
    let strict = map value c.args.strict.now in
    let j = c.args.j in
    none_given value most c.from_residual.result (pos (absolute_dot (weak ++ strict) (column (rows_of s) j))) c.from_residual.ensures
    (first_part_over s most weak strict c.weak.result.now j (value c.ZERO.result) (length-map c.args.weak.now value ∙ c.requires.weak_length) c.weak.ensures.value (ap value c.ZERO.ensures ∙ g.met.W.Word.value_of_zero) c.in_err-weak_sum.ensures)

pub plus_column-requires-2-clause-widths : goal.plus_column-requires-2-clause-widths
plus_column-requires-2-clause-widths g c =
    let s = c.args.s.now in
    rw c.strict.ensures.value (within_widths s.columns c.args.j s.strict c.strict.ensures.form.strict_widths c.requires.within)

pub returns : goal.returns
returns g c =
    let value = g.W.Word.value in
    let s = c.args.s.now in
    let weak = map value c.args.weak.now in
    let strict = map value c.args.strict.now in
    subst (GivesExact value g.W.Word.most c.plus_column-2.result)
    (column_of_both s weak strict c.weak.result.now c.strict.result.now c.args.j (value c.ZERO.result) (value c.in_ok-weak_sum.weak_sum) (length-map c.args.weak.now value ∙ c.requires.weak_length) c.weak.ensures.value c.strict.ensures.value (ap value c.ZERO.ensures ∙ g.met.W.Word.value_of_zero) c.in_ok-weak_sum.ensures.0)
    c.plus_column-2.ensures
