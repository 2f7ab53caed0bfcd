use Rattle.std.proofs.Common.{◌≡◌, List, sym, subst, ◌∙◌}
use Rattle.ror_statement.specs.declared.statement.Numbered.{Numbered}
use Rattle.ror_value.specs.Over.{IsLawfulIn}
use Rattle.ror_statement.specs.Statements.{statements_in}
use Rattle.ror_history.specs.History.{standing}
use Rattle.ror_bench.proofs.LawfulLemmas.{lawful_now}
use Rattle.ror_bench.proofs.checking.check_repaired.Goals as goal

pub check_repair-requires-clause-lawful : goal.check_repair-requires-clause-lawful
check_repair-requires-clause-lawful c =
    let t = c.args.table.now in
    let r = c.args.history.now.state in
    let list : c.as_slice.result.now ≡ standing r = c.as_slice.ensures.value ∙ c.in_ok-standing-in-Repaired.ensures.listed in
    subst (λ (l : List Numbered). IsLawfulIn t (statements_in l)) (sym list) (lawful_now t r c.requires.lawful)
