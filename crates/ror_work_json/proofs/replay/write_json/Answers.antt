use Rattle.std.proofs.Common.{List, inl, refl, ◌++◌, ◌∷◌, [], sym, subst, length}
use Rattle.std.specs.Prelude.{string_bytes}
use Rattle.std.specs.List.{AllByRecursion}
use Rattle.std.proofs.lemmas.Result.{err_from_is_err_and}
use Rattle.ror_session.specs.declared.session.Line.{Line}
use Rattle.ror_bench.specs.Bench.{LeavesNumbers}
use Rattle.ror_frame.specs.Inputs.{bench_for}
use Rattle.ror_frame.proofs.Desks.{lawful_desks}
use Rattle.ror_pivot.specs.Answers.{most_of}
use Rattle.ror_work_json.specs.Steps.{IsJsonText}
use Rattle.ror_work_json.proofs.Writing.{line_due, line_written, line_cut}
use Rattle.ror_work_json.proofs.replay.write_json.Goals as goal

pub text_of-requires-clause-numbers : goal.text_of-requires-clause-numbers
text_of-requires-clause-numbers g c =
    subst (λ (lines : List Line). AllByRecursion (LeavesNumbers (length lines)) c.in_ok-bench.bench.state) (sym c.as_slice.ensures) c.in_ok-bench.ensures.numbers

pub returns-in_err-text : goal.returns-in_err-text
returns-in_err-text g c =
    let p = err_from_is_err_and c.from_residual-in_err-text.result c.from_residual-in_err-text.ensures.1 in
    rw (p.1, p.2) (inl refl)

pub returns-in_err-write_pieces : goal.returns-in_err-write_pieces
returns-in_err-write_pieces g c =
    let i = c.args.input in
    let s = c.args.session.now in
    let start = bench_for i s in
    let most = most_of c.args.bits in
    let text = string_bytes c.in_ok-text.text in
    let begun = c.in_ok-bench.ensures.begun in
    let made = subst (λ (lines : List Line). IsJsonText most c.in_ok-bench.bench lines text c.in_ok-text.wide) c.as_slice.ensures c.in_ok-text.ensures in
    let due = line_due most c.in_ok-bench.bench start s.lines text c.in_ok-text.wide begun c.alternatives.ensures.table (lawful_desks i (length s.desks) c.requires.lawful) made in
    let failed = c.in_err-write_pieces.ensures in
    let p = err_from_is_err_and c.from_residual-in_err-write_pieces.result c.from_residual-in_err-write_pieces.ensures.1 in
    rw (p.1, p.2) (line_cut most start s.lines (text ++ 10 ∷ []) c.in_ok-text.wide _ _ _ _ due failed.never_falls failed.failed (rw (sym c.as_bytes.ensures.value) failed.short))

pub returns : goal.returns
returns g c =
    let i = c.args.input in
    let s = c.args.session.now in
    let start = bench_for i s in
    let most = most_of c.args.bits in
    let text = string_bytes c.in_ok-text.text in
    let begun = c.in_ok-bench.ensures.begun in
    let made = subst (λ (lines : List Line). IsJsonText most c.in_ok-bench.bench lines text c.in_ok-text.wide) c.as_slice.ensures c.in_ok-text.ensures in
    let due = line_due most c.in_ok-bench.bench start s.lines text c.in_ok-text.wide begun c.alternatives.ensures.table (lawful_desks i (length s.desks) c.requires.lawful) made in
    let done = c.in_ok-write_pieces.ensures in
    line_written most start s.lines (text ++ 10 ∷ []) c.in_ok-text.wide _ _ _ _ due done.ok (rw (sym c.as_bytes.ensures.value) done.all_taken)
