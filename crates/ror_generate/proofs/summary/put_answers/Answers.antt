use Rattle.std.proofs.Common.{rules, ◌+◌, ◌++◌, ◌∷◌, [], ◌≡◌, ◌<◌, ◌∙◌, length, take, drop, sym, ap, refl, arith}
use Rattle.std.specs.Prelude.{◌^◌}
use Rattle.std.proofs.lemmas.List.{take_all, take_more}
use Rattle.ror_session.specs.declared.session.Line.{Line}
use Rattle.ror_report.specs.Text.{answers_of}
use Rattle.ror_bench.specs.Reports.{accepted_of}
use Rattle.ror_bench.specs.Steps.{with_passed}
use Rattle.ror_bench.proofs.ReportProofs.{desk_at, after_desks, number_left, one_fewer}
use Rattle.ror_bench.proofs.MakingLemmas.{made_nothing, made_more, numbers_then}
use Rattle.ror_generate.specs.Generating.{most}
use Rattle.ror_generate.proofs.Counting.{answers_more, accepted_more}
use Rattle.ror_generate.proofs.summary.put_answers.Goals as goal

pub loop-line-init : goal.loop-line-init
loop-line-init c = record { same = c.requires.same; numbers = c.requires.numbers; first = []; made = made_nothing most c.args.bench.now; answers = c.requires.none; accepted = refl; few = omega arith }

pub checked_block-requires : goal.checked_block-requires
checked_block-requires c =
    let were = c.loop-line.invariant in
    let lines = c.args.lines.now in
    let i = c.loop-line.line-index in
    let line = c.line-item.result in
    let desk = after_desks c.args.bench.now _ c.loop-line.bench were.made.after line (desk_at _ lines i line c.requires.desks c.loop-line-test.true c.line-item.is) in
    let left = number_left c.loop-line.bench line (length (drop (i + 1) lines)) desk (rw (one_fewer lines i c.loop-line-test.true) at were.numbers) in
    record { same = were.same; desk = desk; number = omega (arith, left) }

pub with_passed-accepted-requires : goal.with_passed-accepted-requires
with_passed-accepted-requires c =
    let answers : c.in_ok-block.passed.answers < 2 ^ 32 = search rules in
    let wide : c.in_ok-block.passed.wide < 2 ^ 32 = search rules in
    let few = c.loop-line.invariant.few in
    let lines = c.requires.few in
    let within = c.loop-line-test.true in
    record { answers = omega arith; wide = omega arith }

pub loop-line-preserved : goal.loop-line-preserved
loop-line-preserved c =
    let were = c.loop-line.invariant in
    let lines = c.args.lines.now in
    let i = c.loop-line.line-index in
    let line = c.line-item.result in
    let block = c.in_ok-block.block in
    let passed = c.in_ok-block.passed in
    let new = c.in_ok-block.ensures in
    let desk = desk_at _ lines i line c.requires.desks c.loop-line-test.true c.line-item.is in
    let here = after_desks c.args.bench.now _ c.loop-line.bench were.made.after line desk in
    let numbers = rw (one_fewer lines i c.loop-line-test.true) at were.numbers in
    let more : take (i + 1) lines ≡ take i lines ++ line ∷ [] = take_more lines i line c.loop-line-test.true ∙ ap (λ (x : Line). take i lines ++ x ∷ []) (sym c.line-item.is) in
    let few = were.few in
    let answers : passed.answers < 2 ^ 32 = search rules in
    let wide : passed.wide < 2 ^ 32 = search rules in
    let is = c.with_passed-accepted.ensures in
    let sum = ap (λ a. a.answers + a.wide) is in
    record {
      same = new.same;
      numbers = numbers_then most c.loop-line.bench c.checked_block.new.bench line block (length (drop (i + 1) lines)) here numbers new.block new.moved;
      first = were.first ++ block ∷ [];
      made = rw more (made_more most c.args.bench.now (take i lines) c.loop-line.bench c.checked_block.new.bench line were.first block were.made desk new.block new.text new.moved);
      answers = c.in_ok-put_all.ensures ∙ ap (λ xs. xs ++ answers_of block.body) were.answers ∙ sym (answers_more were.first block);
      accepted = is ∙ ap (λ a. with_passed a passed) were.accepted ∙ ap (with_passed (accepted_of were.first)) new.counted ∙ accepted_more were.first block;
      few = omega arith;
    }

pub returns : goal.returns
returns c =
    let were = c.loop-line.invariant in
    let all = take_all c.loop-line.line-index c.args.lines.now (omega arith) in
    record { blocks = were.first; made = rw all at were.made.blocks_are; answers_are = were.answers; accepted_are = were.accepted }
