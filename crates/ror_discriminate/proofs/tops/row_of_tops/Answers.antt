use Rattle.std.proofs.Common.{◌≡◌, IfOk, List, ℤ, ◌∙◌, sym, subst, arith}
use Rattle.std.proofs.lemmas.List.{take_all}
use Rattle.std.proofs.lemmas.Result.{IfOk-weaker}
use Rattle.ror_table.specs.Blocks.{tops}
use Rattle.ror_table.specs.Table.{columns}
use Rattle.ror_table.proofs.BlockLemmas.{length-tops}
use Rattle.ror_pivot.specs.Optimality.{AreTops}
use Rattle.ror_discriminate.proofs.Margins.{tops_are}
use Rattle.ror_discriminate.proofs.tops.row_of_tops.Goals as goal

pub returns-clause-value : goal.returns-clause-value
returns-clause-value c =
    let t = c.args.table.now in
    let whole = c.loop-column.invariant.0 ∙ take_all c.loop-column.column (tops t) (omega (arith, c.loop-column-test.false, c.columns-column-end.ensures.number, length-tops t)) in
    subst (λ (xs : List ℤ). IfOk c.from_vec.result (λ row. row ≡ xs)) whole c.from_vec.ensures

pub returns-clause-tops : goal.returns-clause-tops
returns-clause-tops c =
    let are = tops_are c.args.table.now c.columns-column-end.ensures.table in
    IfOk-weaker c.from_vec.result _ (AreTops (columns c.args.table.now)) (λ row is. subst (AreTops (columns c.args.table.now)) (sym is) are) (returns-clause-value c)
