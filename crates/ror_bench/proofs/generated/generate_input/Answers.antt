use Rattle.std.proofs.Common.{◌∙◌}
use Rattle.ror_bench.proofs.GeneratedSession.{sizes, all_generated}
use Rattle.ror_bench.proofs.generated.generate_input.Goals as goal

pub returns : goal.returns
returns c =
    let made = c.in_ok-table.ensures in
    all_generated c.args.number c.generated_table.new.draws.seed c.in_ok-table.table c.from-opening.result c.in_ok-session.session made.made made.seed (c.from-opening.ensures ∙ c.new.ensures.items) c.in_ok-session.ensures

pub generated_session-requires : goal.generated_session-requires
generated_session-requires c =
    let size = sizes c.args.number c.in_ok-table.table c.in_ok-table.ensures.made in
    record { table = c.in_ok-table.ensures.table; alternatives = size.0; criteria = size.1 }
