use Rattle.std.proofs.Common.{◌≡◌, ◌∙◌, ap, sym, subst}
use Rattle.std.specs.List.{AllByRecursion}
use Rattle.ror_statement.specs.Statements.{statements_in}
use Rattle.ror_value.specs.Over.{IsLawfulIn}
use Rattle.ror_history.specs.History.{statements_of}
use Rattle.ror_bench.specs.Bench.{revisions_at}
use Rattle.ror_closing.proofs.ClosingLemmas.{listed_more, lawful_more}
use Rattle.ror_closing.proofs.closing.standing_lists.Goals as goal

pub loop-desk-preserved : goal.loop-desk-preserved
loop-desk-preserved c =
    let bench = c.args.bench.now in
    let desk = c.loop-desk.desk in
    let list : c.from.result ≡ statements_of (revisions_at bench desk) = c.from.ensures ∙ c.in_ok-list.ensures ∙ ap statements_in (c.deref.ensures.value ∙ c.in_ok-standing.ensures.listed) in
    let lists = c.in_ok-push.ensures.items in
    record {
      listed = lists ∙ listed_more bench c.loop-desk.lists.items desk c.from.result c.loop-desk.invariant.listed list;
      lawful = subst (AllByRecursion (IsLawfulIn bench.table)) (sym lists) (lawful_more bench c.loop-desk.lists.items desk c.from.result c.loop-desk.invariant.lawful list c.standing.ensures.lawful);
    }
