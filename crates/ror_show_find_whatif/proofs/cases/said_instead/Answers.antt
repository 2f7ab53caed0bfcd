use Rattle.std.proofs.Common.{List, refl, sym, subst, ◌∙◌}
use Rattle.ror_statement.specs.declared.statement.Statement.{Statement}
use Rattle.ror_value.specs.Over.{IsLawfulIn}
use Rattle.ror_show_find_whatif.specs.Outcomes.{IsOutcome}
use Rattle.ror_show_find_whatif.proofs.cases.said_instead.Goals as goal

pub find_outcome-requires-clause-lawful : goal.find_outcome-requires-clause-lawful
find_outcome-requires-clause-lawful c =
    let s = c.args.stood.now in
    subst (IsLawfulIn s.table.now) (sym (c.as_slice.ensures.value ∙ c.in_ok-list.ensures)) c.requires.lawful

pub returns : goal.returns
returns c =
    let s = c.args.stood.now in
    let made = c.in_ok-outcome in (
      record { statement = c.args.statement; outcome = made.outcome },
      record {
        statement = refl;
        outcome = subst (λ (list : List Statement). IsOutcome s.table.now c.args.asks s.answers.now list made.outcome) (c.as_slice.ensures.value ∙ c.in_ok-list.ensures) made.ensures;
      },
      refl,
    )
