use Rattle.std.proofs.Common.{◌≡◌, ◌<◌, List, length, sym, ap, subst, arith}
use Rattle.std.proofs.lemmas.Result.{IfOk-weaker}
use Rattle.ror_statement.specs.declared.statement.Numbered.{Numbered}
use Rattle.ror_statement.specs.declared.statement.Statement.{Statement}
use Rattle.ror_statement.specs.Statements.{statements_in}
use Rattle.ror_table.specs.Table.{DecisionTable}
use Rattle.ror_value.specs.Over.{IsLawfulIn}
use Rattle.ror_history.specs.History.{standing}
use Rattle.ror_bench.specs.Bench.{revisions_at}
use Rattle.ror_closing.specs.Closing.{IsClosingStanding}
use Rattle.ror_closing.proofs.StandingLemmas.{standing_of}
use Rattle.ror_closing.proofs.closing.closing_standing.Goals as goal

pub standing-requires : goal.standing-requires
standing-requires c =
    let same = c.in_ok-revise.ensures.revised.desks in
    let within = c.requires.desk in
    omega (arith, same, within)

pub returns-clause-closing : goal.returns-clause-closing
returns-clause-closing c =
    let start = c.args.bench.now in
    let lines = c.args.lines.now in
    let bench = c.revise.new.bench in
    IfOk-weaker c.standing.result _ _ (λ list is. standing_of start lines bench c.args.desk list.items c.in_ok-revise.ensures.revised c.requires.desk is) c.standing.ensures.listed

pub returns-clause-lawful : goal.returns-clause-lawful
returns-clause-lawful c =
    let bench = c.revise.new.bench in
    let lawful : IsLawfulIn c.args.bench.now.table (statements_in (standing (revisions_at bench c.args.desk))) = subst (λ (t : DecisionTable). IsLawfulIn t (statements_in (standing (revisions_at bench c.args.desk)))) c.revise.ensures.table c.standing.ensures.lawful in
    IfOk-weaker c.standing.result _ _ (λ list is. subst (λ (l : List Numbered). IsLawfulIn c.args.bench.now.table (statements_in l)) (sym is) lawful) c.standing.ensures.listed
