use Rattle.ror_pivot.specs.declared.note.Bits.TheVariants.{B31}
use Rattle.ror_pivot.specs.Answers.{most_of}
use Rattle.ror_bench.specs.Bench.{revisions_at}
use Rattle.ror_bench.proofs.ReplayLemmas.{block_proved}
use Rattle.ror_closing.proofs.closing.do_line.Goals as goal

pub returns-clause-done : goal.returns-clause-done
returns-clause-done c =
    let bench = c.args.bench.now in
    let line = c.args.line.now in
    record {
      block = c.in_ok-block.block;
      is_block = block_proved (most_of B31) bench.table (revisions_at bench line.desk) line c.in_ok-block.block c.in_ok-block.ensures.block;
      moved_on = c.in_ok-block.ensures.moved;
    }
