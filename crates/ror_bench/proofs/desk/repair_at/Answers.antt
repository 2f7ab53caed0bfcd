use Rattle.std.proofs.Common.{◌≡◌, List, sym, subst, ◌∙◌}
use Rattle.ror_statement.specs.declared.statement.Numbered.{Numbered}
use Rattle.ror_value.specs.Over.{IsLawfulIn}
use Rattle.ror_statement.specs.Statements.{statements_in}
use Rattle.ror_check.specs.Repair.{numbers_of, IsRepair, IsProvedRepair}
use Rattle.ror_history.specs.History.{standing}
use Rattle.ror_bench.proofs.LawfulLemmas.{lawful_now}
use Rattle.ror_bench.proofs.desk.repair_at.Goals as goal

pub repair_counted-requires-clause-lawful : goal.repair_counted-requires-clause-lawful
repair_counted-requires-clause-lawful c =
    let t = c.args.table.now in
    let r = c.args.history.now.state in
    let list : c.as_slice.result.now ≡ standing r = c.as_slice.ensures.value ∙ c.in_ok-standing.ensures.listed in
    subst (λ (l : List Numbered). IsLawfulIn t (statements_in l)) (sym list) (lawful_now t r c.requires.lawful)

pub returns-in-Ok-clause-body : goal.returns-in-Ok-clause-body
returns-in-Ok-clause-body c =
    let t = c.args.table.now in
    let r = c.args.history.now.state in
    let list : c.as_slice.result.now ≡ standing r = c.as_slice.ensures.value ∙ c.in_ok-standing.ensures.listed in (
      record { proved = subst (λ (l : List Numbered). IsProvedRepair t l c.in-Ok.kept) list c.in-Ok.ensures.proved; narrow = c.in-Ok.ensures.narrow },
      subst (λ (l : List Numbered). IsRepair t l (numbers_of c.in-Ok.kept.dropped)) list c.in-Ok.ensures.true_repair,
    )
