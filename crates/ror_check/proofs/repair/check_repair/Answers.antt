use Rattle.std.proofs.Common.{rules, subst, sym, ◌∙◌}
use Rattle.std.proofs.lemmas.Result.{err_from_is_err_and}
use Rattle.ror_value.specs.Over.{IsLawfulIn}
use Rattle.ror_check.specs.Repair.{AreNumbersIn, IsBaseKind, kept_of, numbers_of}
use Rattle.ror_check.specs.RepairSteps.{RefusesDropped}
use Rattle.ror_check.proofs.Repairs.{kept_lawful}
use Rattle.ror_check.proofs.RepairFirstFaults.{dropped_refused, IsAnsweredBy, base_answers, true_where_proved, repair_not_proved}
use Rattle.ror_check.proofs.repair.check_repair.Goals as goal

pub returns-in_err-kept-clause-refused : goal.returns-in_err-kept-clause-refused
returns-in_err-kept-clause-refused c =
    let list = c.args.standing.now in
    let x = c.args.x.now in
    let own = c.as_slice-dropped.ensures in
    let numbers : AreNumbersIn list (numbers_of c.as_slice-dropped.result.now) = search rules in
    let kind : IsBaseKind (kept_of (numbers_of c.as_slice-dropped.result.now) list) x.base = search rules in
    let exit = err_from_is_err_and c.from_residual.result c.from_residual.ensures.1 in
    rw (exit.1, exit.2) (dropped_refused c.args.table.now list x c.in_err-kept.field-0.0
    (subst (λ ds. AreNumbersIn list (numbers_of ds)) own numbers)
    (subst (λ ds. IsBaseKind (kept_of (numbers_of ds) list) x.base) own kind)
    (subst (λ ds. RefusesDropped c.args.table.now list ds c.in_err-kept.field-0.0) own c.in_err-kept.ensures.err))

pub returns-in_err-kept-clause-not_proved : goal.returns-in_err-kept-clause-not_proved
returns-in_err-kept-clause-not_proved c = repair_not_proved c.args.table.now c.args.standing.now c.args.x.now c.from_residual.result (returns-in_err-kept-clause-refused c)

pub check_base_of-requires : goal.check_base_of-requires
check_base_of-requires c =
    let is = c.as_slice.ensures.value ∙ c.in_ok-kept.ensures.kept in
    subst (IsLawfulIn c.args.table.now) (sym is) (kept_lawful c.args.table.now (numbers_of c.as_slice-dropped.result.now) c.args.standing.now c.requires.lawful)

answered : (c : goal.After-drop-kept) → IsAnsweredBy c.args.table.now c.args.standing.now c.args.x.now c.check_base_of.result
answered c =
    let list = c.args.standing.now in
    let x = c.args.x.now in
    let numbers : AreNumbersIn list (numbers_of c.as_slice-dropped.result.now) = search rules in
    let kind : IsBaseKind (kept_of (numbers_of c.as_slice-dropped.result.now) list) x.base = search rules in
    base_answers c.args.table.now list x c.as_slice-dropped.result.now c.as_slice.result.now c.check_base_of.result c.as_slice-dropped.ensures (c.as_slice.ensures.value ∙ c.in_ok-kept.ensures.kept) numbers kind c.in_ok-kept.ensures.refuted c.check_base_of.ensures.ok c.check_base_of.ensures.err

pub returns-clause-accepted : goal.returns-clause-accepted
returns-clause-accepted c = (answered c).accepted

pub returns-clause-true_repair : goal.returns-clause-true_repair
returns-clause-true_repair c = true_where_proved c.args.table.now c.args.standing.now c.args.x.now c.check_base_of.result c.requires.lawful (answered c).accepted

pub returns-clause-not_proved : goal.returns-clause-not_proved
returns-clause-not_proved c = repair_not_proved c.args.table.now c.args.standing.now c.args.x.now c.check_base_of.result (answered c).refused

pub returns-clause-refused : goal.returns-clause-refused
returns-clause-refused c = (answered c).refused
