use Rattle.ror_bench.specs.Bench.{revisions_at}
use Rattle.ror_bench.proofs.ReplayLemmas.{block_proved}
use Rattle.ror_generate.specs.Generating.{most}
use Rattle.ror_generate.proofs.Counting.{only_memory, checked_alike}
use Rattle.ror_generate.proofs.summary.checked_block.Goals as goal

pub check_line-requires-clause-desk : goal.check_line-requires-clause-desk
check_line-requires-clause-desk c = rw c.requires.same.1 c.requires.desk

pub check_line-requires-clause-number : goal.check_line-requires-clause-number
check_line-requires-clause-number c = rw c.requires.same.1 c.requires.number

pub out_of_memory-requires : goal.out_of_memory-requires
out_of_memory-requires c =
    let bench = c.args.bench.now in
    let line = c.args.line.now in
    let proved = block_proved most bench.table (revisions_at bench line.desk) line c.in_ok-block.block c.in_ok-block.ensures.block in
    only_memory c.in-Err.fault (λ other. c.in-Err.ensures.not_proved other (rw (c.requires.same.0, c.requires.same.1) proved))

pub returns-in-Ok-clause-same : goal.returns-in-Ok-clause-same
returns-in-Ok-clause-same c =
    checked_alike c.args.bench.now c.args.checks.now c.step.new.self c.check_line.new.self c.args.line.now c.in_ok-block.block c.requires.same c.in-Ok.ensures.moved c.in_ok-block.ensures.moved
