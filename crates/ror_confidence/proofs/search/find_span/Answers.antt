use Rattle.std.proofs.Common.{List, IfOk, IfErr, subst, sym}
use Rattle.ror_statement.specs.declared.statement.Statement.{Statement}
use Rattle.ror_pivot.specs.Answers.{most_of}
use Rattle.ror_confidence.specs.Spans.{IsSpan}
use Rattle.ror_confidence.specs.Proof.{IsProvedSpan}
use Rattle.ror_confidence.specs.Finding.{HasNoWideQuestions, IsDueSpanFault}
use Rattle.ror_confidence.proofs.search.find_span.Goals as goal

pub returns-clause-proved : goal.returns-clause-proved
returns-clause-proved g c =
    subst (λ (lists : List (List Statement)). IfOk c.find.result (IsProvedSpan c.args.table.now lists c.args.pair.first c.args.pair.second)) c.in_ok-search.ensures.lists c.find.ensures.proved

pub returns-clause-true_span : goal.returns-clause-true_span
returns-clause-true_span g c =
    subst (λ (lists : List (List Statement)). IfOk c.find.result (λ x. IsSpan c.args.table.now lists c.args.pair.first c.args.pair.second x.contradictory x.necessary x.possible)) c.in_ok-search.ensures.lists c.find.ensures.true_span

pub returns-clause-due : goal.returns-clause-due
returns-clause-due g c =
    subst (λ (lists : List (List Statement)). IfErr c.find.result (IsDueSpanFault (most_of c.args.bits) c.args.table.now lists c.args.pair.first c.args.pair.second)) c.in_ok-search.ensures.lists c.find.ensures.due

pub returns-clause-complete : goal.returns-clause-complete
returns-clause-complete g c = λ none.
    c.find.ensures.complete (subst (λ (lists : List (List Statement)). HasNoWideQuestions (most_of c.args.bits) c.args.table.now lists c.args.pair.first c.args.pair.second) (sym c.in_ok-search.ensures.lists) none)
