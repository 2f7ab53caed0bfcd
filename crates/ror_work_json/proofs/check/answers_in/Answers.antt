use Rattle.std.proofs.Common.{rules, List, length, sym, subst}
use Rattle.std.specs.List.{AllByRecursion}
use Rattle.std.proofs.lemmas.Result.{err_from_is_err_and}
use Rattle.ror_session.specs.declared.session.Line.{Line}
use Rattle.ror_bench.specs.Bench.{LeavesNumbers}
use Rattle.ror_work_json.proofs.Judging.{rejected_as, proves_as}
use Rattle.ror_work_json.proofs.check.answers_in.Goals as goal

pub returns-in_err-check_text : goal.returns-in_err-check_text
returns-in_err-check_text c =
    let p = err_from_is_err_and c.from_residual-in_err-check_text.result c.from_residual-in_err-check_text.ensures.1 in
    rw (p.1, p.2) (rejected_as c.args.input c.args.session.now _ _ c.args.bytes.now _ (search rules) (search rules) c.requires.within c.in_err-check_text.ensures.rejected c.in_err-check_text.ensures.pure)

pub check_text-requires-clause-numbers : goal.check_text-requires-clause-numbers
check_text-requires-clause-numbers c =
    subst (λ (lines : List Line). AllByRecursion (LeavesNumbers (length lines)) c.in_ok-bench.bench.state) (sym c.as_slice-lines.ensures) c.in_ok-bench.ensures.numbers

pub returns : goal.returns
returns c =
    proves_as c.args.input c.args.session.now c.in_ok-bench.bench c.as_slice-lines.result.now c.args.bytes.now c.in_ok-check_text.field-0 (search rules) (search rules) c.requires.within c.in_ok-check_text.ensures.accepted
