use Rattle.std.proofs.Common.{◌≡◌, List, sym, subst, ◌∙◌}
use Rattle.std.specs.List.Sorted.{IsStrictlyIncreasing}
use Rattle.std.proofs.lemmas.Result.{IfOk-weaker}
use Rattle.ror_statement.specs.declared.statement.Numbered.{Numbered}
use Rattle.ror_statement.specs.Statements.{numbers_in, statements_in}
use Rattle.ror_value.specs.Over.{IsLawfulIn}
use Rattle.ror_check.specs.Repair.{numbers_of}
use Rattle.ror_show_find_reasons.specs.Lines.{clash_list, IsConflict}
use Rattle.ror_show_find_reasons.proofs.Clashes.{clash_lawful, clash_rises}
use Rattle.ror_show_find_reasons.proofs.drops.conflict_of.Goals as goal

pub conflict_in-requires-clause-lawful : goal.conflict_in-requires-clause-lawful
conflict_in-requires-clause-lawful c =
    let s = c.args.stood.now in
    let dropped = numbers_of c.args.dropped.now in
    let same : c.as_slice.result.now ≡ clash_list dropped s.list.now c.args.place c.args.x.now = c.as_slice.ensures.value ∙ c.in_ok-clash.ensures in
    subst (λ (l : List Numbered). IsLawfulIn s.table.now (statements_in l)) (sym same) (clash_lawful s.table.now dropped s.list.now c.args.place c.args.x.now c.requires.there c.requires.stood.lawful)

pub conflict_in-requires-clause-rising : goal.conflict_in-requires-clause-rising
conflict_in-requires-clause-rising c =
    let s = c.args.stood.now in
    let dropped = numbers_of c.args.dropped.now in
    let same : c.as_slice.result.now ≡ clash_list dropped s.list.now c.args.place c.args.x.now = c.as_slice.ensures.value ∙ c.in_ok-clash.ensures in
    subst (λ (l : List Numbered). IsStrictlyIncreasing (numbers_in l)) (sym same) (clash_rises dropped s.list.now c.args.place c.args.x.now c.requires.there c.requires.stood.rising)

pub returns : goal.returns
returns c =
    let s = c.args.stood.now in
    let dropped = numbers_of c.args.dropped.now in
    let same : c.as_slice.result.now ≡ clash_list dropped s.list.now c.args.place c.args.x.now = c.as_slice.ensures.value ∙ c.in_ok-clash.ensures in
    IfOk-weaker c.conflict_in.result _ _
    (λ reason is. subst (λ (l : List Numbered). IsConflict s.table.now l reason) same is)
    c.conflict_in.ensures
