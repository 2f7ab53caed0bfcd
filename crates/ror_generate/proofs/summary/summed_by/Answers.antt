use Rattle.std.proofs.Common.{◌≡◌, ◌∙◌, ap}
use Rattle.ror_bench.specs.Generated.{generated}
use Rattle.ror_bench.proofs.GeneratedSession.{generated_lawful}
use Rattle.ror_bench.proofs.SameLemmas.{same_back, same_through, blocks_same}
use Rattle.ror_generate.specs.Generating.{most, verdicts_of, bench_from}
use Rattle.ror_generate.proofs.Summaries.{named_desks, left_numbers, summary_from}
use Rattle.ror_generate.proofs.summary.summed_by.Goals as goal

pub put_answers-requires : goal.put_answers-requires
put_answers-requires c =
    let bench = c.requires.bench in
    let lines : c.as_slice-lines.result.now ≡ (generated c.args.number).session.lines = c.as_slice-lines.ensures ∙ ap (λ g. g.session.lines) c.in_ok-generated.ensures in
    record {
      same = same_through c.args.checks.now (bench_from c.args.number) c.args.bench.now c.requires.checks (same_back c.args.bench.now (bench_from c.args.number) bench);
      desks = rw (bench.1, lines) (named_desks c.args.number);
      numbers = rw (bench.1, lines) (left_numbers c.args.number);
      few = rw lines (generated_lawful c.args.number).session.few_lines;
      none = c.new-answers.ensures.items;
    }

pub returns : goal.returns
returns c =
    let lines : c.as_slice-lines.result.now ≡ (generated c.args.number).session.lines = c.as_slice-lines.ensures ∙ ap (λ g. g.session.lines) c.in_ok-generated.ensures in
    let of = rw lines at c.in_ok-accepted.ensures in
    let verdicts : c.verdicts_of-verdicts.result ≡ verdicts_of c.put_answers.new.answers.items = c.verdicts_of-verdicts.ensures ∙ ap verdicts_of c.as_slice.ensures.value in
    rw verdicts (summary_from c.args.number _ _ (record { blocks = of.blocks; made = blocks_same c.args.bench.now (bench_from c.args.number) c.requires.bench most _ of.blocks of.made; answers_are = of.answers_are; accepted_are = of.accepted_are }))
