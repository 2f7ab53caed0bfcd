use Rattle.std.proofs.Common.{◌≡◌, ◌∙◌, length, sym, subst, arith, rules}
use Rattle.std.proofs.lemmas.Result.{err_from_is_err_and}
use Rattle.ror_integers.specs.Vectors.{NoneNegative}
use Rattle.ror_table.specs.Table.{columns}
use Rattle.ror_value.specs.ValueFaults.{IsAcceptedFunction}
use Rattle.ror_value.proofs.Walks.{accepted_by, function_by, refused_by}
use Rattle.ror_value.proofs.value_function.ValueFunction.new.Goals as goal

pub returns-in_err-sum-clause-not_accepted : goal.returns-in_err-sum-clause-not_accepted
returns-in_err-sum-clause-not_accepted c =
    let b = err_from_is_err_and c.from_residual.result c.from_residual.ensures.1 in
    rw b.1 (λ other accepted. refused_by c.args.table.now c.args.steps.now c.ideal_value.result c.columns.ensures.table c.ideal_value.ensures c.in_err-sum.ensures.ok_part accepted)

pub returns-clause-accepted : goal.returns-clause-accepted
returns-clause-accepted c =
    let long : length c.args.steps.now ≡ columns c.args.table.now = omega (arith, c.if-steps-columns.false, c.columns.ensures.number) in
    let none : NoneNegative c.args.steps.now = search rules in
    subst (IsAcceptedFunction c.args.table.now) (sym (c.from.ensures ∙ c.in_ok-steps.ensures.items)) (accepted_by c.args.table.now c.args.steps.now c.in_ok-sum.sum c.ideal_value.result c.columns.ensures.table long none c.ideal_value.ensures c.in_ok-sum.ensures.ok_part).0

pub returns-clause-function : goal.returns-clause-function
returns-clause-function c =
    let long : length c.args.steps.now ≡ columns c.args.table.now = omega (arith, c.if-steps-columns.false, c.columns.ensures.number) in
    let none : NoneNegative c.args.steps.now = search rules in
    function_by c.args.table.now c.args.steps.now c.from.result c.in_ok-sum.sum c.columns.ensures.table (c.from.ensures ∙ c.in_ok-steps.ensures.items)
    (accepted_by c.args.table.now c.args.steps.now c.in_ok-sum.sum c.ideal_value.result c.columns.ensures.table long none c.ideal_value.ensures c.in_ok-sum.ensures.ok_part)
