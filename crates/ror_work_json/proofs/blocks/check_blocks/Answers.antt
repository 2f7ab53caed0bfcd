use Rattle.std.proofs.Common.{rules, arith, ◌≡◌, ◌+◌, ◌<◌, ◌≤◌, ◌++◌, ◌∷◌, take, drop, get_or, length, [], inl, inr, refl, sym, ap, subst, ◌∙◌, ltb-true}
use Rattle.std.specs.List.{AllByRecursion}
use Rattle.std.proofs.lemmas.Bool.{cases_lt, lt-ltb, false≢true}
use Rattle.std.proofs.lemmas.List.{take_more}
use Rattle.std.proofs.lemmas.Result.{err_from_is_err_and}
use Rattle.ror_session.specs.declared.session.Line.{Line}
use Rattle.ror_report.specs.declared.block.Block.{Block}
use Rattle.ror_bench.specs.declared.report.Reason.TheVariants.{WrongBlock}
use Rattle.ror_bench.specs.declared.report.Rejection.{Rejection}
use Rattle.ror_bench.specs.Bench.{LeavesNumbers, revisions_at}
use Rattle.ror_bench.specs.Reports.{IfRejected}
use Rattle.ror_bench.specs.Steps.{rejected}
use Rattle.ror_bench.proofs.ReportProofs.{desk_at, after_desks, rejects_by, numbers_after, number_left, one_fewer}
use Rattle.ror_work_json.specs.Json.{IsRejectedAmong}
use Rattle.ror_work_json.specs.Steps.{RefusesBlock}
use Rattle.ror_work_json.proofs.Checking.{none_checked, one_checked, all_checked, line_without_block, block_without_line, block_refused}
use Rattle.ror_work_json.proofs.blocks.check_blocks.Goals as goal

pub loop-line-init : goal.loop-line-init
loop-line-init c = record { block_is = refl; within = omega arith; fits = omega arith; wide_fits = omega arith; numbers = c.requires.numbers; checked = none_checked c.args.bench.now }

pub check_block-requires-clause-number : goal.check_block-requires-clause-number
check_block-requires-clause-number c =
    let i = c.loop-line.line-index in
    let lines = c.args.lines.now in
    let desk = desk_at (length c.args.bench.now.state) lines i c.line-item.result c.requires.desks c.loop-line-test.true c.line-item.is in
    let here = after_desks c.args.bench.now _ c.loop-line.bench c.loop-line.invariant.checked.after c.line-item.result desk in
    let fewer = one_fewer lines i c.loop-line-test.true in
    number_left c.loop-line.bench c.line-item.result (length (drop (i + 1) lines)) here (subst (λ n. AllByRecursion (LeavesNumbers n) c.loop-line.bench.state) fewer c.loop-line.invariant.numbers)

pub returns-in_default-clause-rejected : goal.returns-in_default-clause-rejected
returns-in_default-clause-rejected c =
    let start = c.args.bench.now in
    let lines = c.args.lines.now in
    let blocks = c.args.blocks.now in
    let i = c.loop-line.line-index in
    let line = c.line-item.result in
    let none : length blocks ≤ i = elim (cases_lt i (length blocks)) [
      | inl some ↦ let b = c.loop-line.invariant.block_is in absurd (false≢true (c.in_default.ensures.lookup.0 ∙ lt-ltb c.loop-line.block (length blocks) (omega (arith, some, b))))
      | inr past ↦ past
    ] in
    let is : c.rejected.result ≡ rejected (i + 1) WrongBlock = c.rejected.ensures ∙ ap (λ n. rejected (n + 1) WrongBlock) c.loop-line.invariant.block_is in
    subst (IfRejected (λ (r : Rejection). IsRejectedAmong start r [] lines blocks)) (sym is) (line_without_block start lines blocks i c.loop-line.bench c.loop-line.accepted line c.loop-line-test.true c.line-item.is none c.loop-line.invariant.checked)

pub returns-in_err-passed-clause-rejected : goal.returns-in_err-passed-clause-rejected
returns-in_err-passed-clause-rejected c =
    let start = c.args.bench.now in
    let lines = c.args.lines.now in
    let blocks = c.args.blocks.now in
    let i = c.loop-line.line-index in
    let line = c.line-item.result in
    let found = c.in-Some.found.now in
    let b = c.loop-line.invariant.block_is in
    let place : c.loop-line.block < length blocks = ltb-true c.loop-line.block _ (sym c.in-Some.ensures.lookup.0) in
    let there : found ≡ get_or blocks i found = c.in-Some.ensures.lookup.1 ∙ ap (λ n. get_or blocks n found) b in
    let desk = desk_at (length start.state) lines i line c.requires.desks c.loop-line-test.true c.line-item.is in
    let p = err_from_is_err_and c.from_residual.result c.from_residual.ensures.1 in
    rw (p.1, p.2) (rejects_by (λ (r : Rejection). (r.block ≡ c.loop-line.block + 1) × RefusesBlock c.loop-line.bench.table (revisions_at c.loop-line.bench line.desk) line found r.reason) (λ (r : Rejection). IsRejectedAmong start r [] lines blocks) c.in_err-passed.field-0.0
    (λ r h. block_refused start lines blocks i c.loop-line.bench c.loop-line.accepted line found r c.loop-line-test.true c.line-item.is (omega (arith, place, b)) there desk c.loop-line.invariant.checked (h.0 ∙ ap (λ n. n + 1) b) h.1) c.in_err-passed.ensures.rejected)

pub returns-then-blocks-lines-clause-rejected : goal.returns-then-blocks-lines-clause-rejected
returns-then-blocks-lines-clause-rejected c =
    let start = c.args.bench.now in
    let lines = c.args.lines.now in
    let blocks = c.args.blocks.now in
    let i = c.loop-line.line-index in
    let over : i ≡ length lines = omega arith in
    let more : i < length blocks = omega arith in
    let is : c.rejected-then-blocks-lines.result ≡ rejected (i + 1) WrongBlock = c.rejected-then-blocks-lines.ensures ∙ ap (λ n. rejected (n + 1) WrongBlock) c.loop-line.invariant.block_is in
    subst (IfRejected (λ (r : Rejection). IsRejectedAmong start r [] lines blocks)) (sym is) (block_without_line start lines blocks i c.loop-line.bench c.loop-line.accepted over more c.loop-line.invariant.checked)

pub loop-line-preserved : goal.loop-line-preserved
loop-line-preserved c =
    let start = c.args.bench.now in
    let lines = c.args.lines.now in
    let blocks = c.args.blocks.now in
    let i = c.loop-line.line-index in
    let line = c.line-item.result in
    let found = c.in-Some.found.now in
    let b = c.loop-line.invariant.block_is in
    let place : c.loop-line.block < length blocks = ltb-true c.loop-line.block _ (sym c.in-Some.ensures.lookup.0) in
    let within : i < length blocks = omega (arith, place, b) in
    let there : found ≡ get_or blocks i found = c.in-Some.ensures.lookup.1 ∙ ap (λ n. get_or blocks n found) b in
    let desk = desk_at (length start.state) lines i line c.requires.desks c.loop-line-test.true c.line-item.is in
    let here = after_desks start _ c.loop-line.bench c.loop-line.invariant.checked.after line desk in
    let fewer = one_fewer lines i c.loop-line-test.true in
    let done = c.in_ok-passed.ensures in
    let one = one_checked start (take i lines) (take i blocks) c.loop-line.bench c.check_block.new.bench c.loop-line.accepted line found c.in_ok-passed.passed c.loop-line.invariant.checked desk done.accepted done.counted done.moved in
    let more_lines : take (i + 1) lines ≡ take i lines ++ line ∷ [] = take_more lines i line c.loop-line-test.true ∙ ap (λ (x : Line). take i lines ++ x ∷ []) (sym c.line-item.is) in
    let more_blocks : take (i + 1) blocks ≡ take i blocks ++ found ∷ [] = take_more blocks i found within ∙ ap (λ (x : Block). take i blocks ++ x ∷ []) (sym there) in
    record {
      block_is = omega (arith, b);
      within = omega (arith, within);
      fits = first_of (search rules, omega arith);
      wide_fits = first_of (search rules, omega arith);
      numbers = numbers_after c.loop-line.bench c.check_block.new.bench line found (length (drop (i + 1) lines)) here (subst (λ n. AllByRecursion (LeavesNumbers n) c.loop-line.bench.state) fewer c.loop-line.invariant.numbers) done.accepted done.moved;
      checked = rw (more_lines, more_blocks) one;
    }

pub returns-clause-accepted : goal.returns-clause-accepted
returns-clause-accepted c =
    all_checked c.args.bench.now c.args.lines.now c.args.blocks.now c.loop-line.line-index c.loop-line.bench c.loop-line.accepted (omega arith) (omega arith) c.loop-line.invariant.checked
