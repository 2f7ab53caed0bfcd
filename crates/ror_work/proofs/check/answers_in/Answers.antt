use Rattle.std.proofs.Common.{rules, List, length, sym, subst}
use Rattle.std.specs.List.{AllByRecursion}
use Rattle.std.proofs.lemmas.Result.{err_from_is_err_and}
use Rattle.ror_session.specs.declared.session.Line.{Line}
use Rattle.ror_bench.specs.Bench.{LeavesNumbers}
use Rattle.ror_work.specs.Checking.{ProvesReport}
use Rattle.ror_work.proofs.Judging.{rejected_as, proves_as}
use Rattle.ror_work.proofs.check.answers_in.Goals as goal

pub returns-in_err-check_report : goal.returns-in_err-check_report
returns-in_err-check_report c =
    let p = err_from_is_err_and c.from_residual-in_err-check_report.result c.from_residual-in_err-check_report.ensures.1 in
    rw (p.1, p.2) (rejected_as (ProvesReport c.args.input c.args.session.now) c.args.input c.args.session.now _ _ c.args.bytes.now _ (search rules) (search rules) c.requires.within c.in_err-check_report.ensures.rejected c.in_err-check_report.ensures.pure)

pub check_report-requires-clause-numbers : goal.check_report-requires-clause-numbers
check_report-requires-clause-numbers c =
    subst (λ (lines : List Line). AllByRecursion (LeavesNumbers (length lines)) c.in_ok-bench.bench.state) (sym c.as_slice-lines.ensures) c.in_ok-bench.ensures.numbers

pub returns : goal.returns
returns c =
    proves_as c.args.input c.args.session.now c.in_ok-bench.bench c.as_slice-lines.result.now c.args.bytes.now c.in_ok-check_report.field-0 (search rules) (search rules) c.requires.within c.in_ok-check_report.ensures.accepted
