use Rattle.std.proofs.Common.{rules, ◌≡◌, List, length, Option, Some, None, sym, ap, subst, ◌∙◌, arith}
use Rattle.std.specs.Option.{option_map}
use Rattle.std.proofs.lemmas.Result.{IfOk-weaker}
use Rattle.ror_statement.specs.declared.statement.Numbered.{Numbered}
use Rattle.ror_table.specs.Table.{DecisionTable}
use Rattle.ror_proof.specs.declared.answer.Answer.{Answer}
use Rattle.ror_report.specs.Text.{answers_of}
use Rattle.ror_show_ground.specs.Stood.{stood_of, stood_with}
use Rattle.ror_show_ground.proofs.Lending.{lent_of, none_lent, of_lent}
use Rattle.ror_show_find_whatif.specs.Cases.{AreCasesOver}
use Rattle.ror_show_find_whatif.proofs.whatif.cases_over.Goals as goal

pub find_cases-requires-clause-few : goal.find_cases-requires-clause-few
find_cases-requires-clause-few c =
    let x = c.args.line.now in
    let few = c.requires.few in
    let is : Some (stood_of c.in-Some.stood) ≡ option_map (stood_with c.args.table.now (answers_of c.args.line.now.block.body)) c.args.line.now.standing = search rules in
    let lent = lent_of c.args.table.now (answers_of x.block.body) x.standing (stood_of c.in-Some.stood) is in
    let same : length (stood_of c.in-Some.stood).answers ≡ length (answers_of c.args.line.now.block.body) = ap (λ (xs : List Answer). length xs) lent.answers in
    omega (arith, few, same)

pub returns-in-Some : goal.returns-in-Some
returns-in-Some c =
    let t = c.args.table.now in
    let x = c.args.line.now in
    let is : Some (stood_of c.in-Some.stood) ≡ option_map (stood_with c.args.table.now (answers_of c.args.line.now.block.body)) c.args.line.now.standing = search rules in
    let lent = lent_of t (answers_of x.block.body) x.standing (stood_of c.in-Some.stood) is in
    IfOk-weaker c.find_cases.result _ _
    (λ found are. of_lent (λ (u : DecisionTable) (ys : List Answer) (o : Option (List Numbered)). AreCasesOver u c.args.asks ys o found) t (answers_of x.block.body) x.standing (stood_of c.in-Some.stood) lent are)
    c.find_cases.ensures

pub returns-in-None : goal.returns-in-None
returns-in-None c =
    let t = c.args.table.now in
    let x = c.args.line.now in
    let is : None ≡ option_map (stood_with c.args.table.now (answers_of c.args.line.now.block.body)) c.args.line.now.standing = search rules in
    subst (λ (o : Option (List Numbered)). AreCasesOver t c.args.asks (answers_of x.block.body) o c.from.result) (sym (none_lent t (answers_of x.block.body) x.standing is)) (c.from.ensures ∙ c.new.ensures.items)
