use Rattle.std.proofs.Common.{◌≡◌, sym, subst, rules}
use Rattle.std.specs.List.{AllByRecursion}
use Rattle.ror_show_find_proofs.specs.Sums.{used_columns}
use Rattle.ror_show_find_proofs.specs.Spans.{spans_of, IsSpanIn}
use Rattle.ror_show_find_proofs.proofs.SpanLemmas.{spans_there}
use Rattle.ror_show_find_proofs.proofs.sums.used_spans.Goals as goal

pub returns-clause-there : goal.returns-clause-there
returns-clause-there c =
    let t = c.args.table.now in
    let used = used_columns c.args.system.now c.args.multipliers.now in
    let same : c.from.result ≡ spans_of c.args.table.now (used_columns c.args.system.now c.args.multipliers.now) = search rules in
    subst (AllByRecursion (IsSpanIn t)) (sym same) (spans_there t used)
