use Rattle.std.proofs.Common.{◌≡◌, sym, subst, ◌∙◌}
use Rattle.std.proofs.lemmas.Result.{err_from_is_err_and}
use Rattle.ror_value.specs.Over.{IsLawfulIn}
use Rattle.ror_history.specs.History.{statements_of}
use Rattle.ror_bench.proofs.AnswerLemmas.{refuses_asked}
use Rattle.ror_bench.proofs.LawfulLemmas.{lawful_now}
use Rattle.ror_bench.proofs.desk.answers_to.Goals as goal

pub returns-in_err-questions-clause-refused : goal.returns-in_err-questions-clause-refused
returns-in_err-questions-clause-refused c =
    let exit = err_from_is_err_and c.from_residual.result c.from_residual.ensures.1 in
    rw (exit.1, exit.2) (refuses_asked c.args.table.now c.args.history.now.state c.args.asked.now c.in_err-questions.field-0.0 c.in_err-questions.ensures.exact)

pub new-requires : goal.new-requires
new-requires c =
    let t = c.args.table.now in
    let r = c.args.history.now.state in
    let list : c.from-list.result ≡ statements_of r = c.from-list.ensures ∙ c.in_ok-statements.ensures in
    record { lawful = subst (IsLawfulIn t) (sym list) (lawful_now t r c.requires.lawful) }
