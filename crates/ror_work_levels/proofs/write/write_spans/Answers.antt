use Rattle.std.proofs.Common.{ℕ, List, subst}
use Rattle.ror_pivot.specs.Answers.{most_of}
use Rattle.ror_statement.specs.declared.statement.Statement.{Statement}
use Rattle.ror_table.specs.Table.{DecisionTable}
use Rattle.ror_confidence.specs.Levels.{level_lists}
use Rattle.ror_frame.specs.States.{sink_state}
use Rattle.ror_work_levels.specs.Steps.{WritesOver}
use Rattle.ror_work_levels.proofs.write.write_spans.Goals as goal

pub returns : goal.returns
returns g c =
    let m = c.in_ok-maker.maker in
    let is = c.in_ok-maker.ensures in
    let old = sink_state (g.O.Sink.written c.args.out.now) (g.O.Sink.faults c.args.out.now) in
    let new = sink_state (g.O.Sink.written c.write_report.new.out) (g.O.Sink.faults c.write_report.new.out) in
    let at_most = subst (λ (n : ℕ). WritesOver n m.table m.lists old new c.write_report.result) is.most c.write_report.ensures in
    let of_table = subst (λ (t : DecisionTable). WritesOver (most_of c.args.bits) t m.lists old new c.write_report.result) is.table at_most in
    subst (λ (ls : List (List Statement)). WritesOver (most_of c.args.bits) c.args.bench.table ls old new c.write_report.result) is.lists of_table
