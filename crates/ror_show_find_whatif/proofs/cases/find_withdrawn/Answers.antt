use Rattle.std.proofs.Common.{◌≡◌, ℕ, List, [], ◌∷◌, sym, ap, subst, ◌∙◌}
use Rattle.std.proofs.lemmas.Result.{IfOk-weaker}
use Rattle.ror_statement.specs.declared.statement.Statement.{Statement}
use Rattle.ror_value.specs.Over.{IsLawfulIn}
use Rattle.ror_show_find_whatif.specs.Changed.{left_of}
use Rattle.ror_show_find_whatif.specs.Outcomes.{IsOutcome}
use Rattle.ror_show_find_whatif.proofs.Changing.{left_lawful}
use Rattle.ror_show_find_whatif.proofs.cases.find_withdrawn.Goals as goal

pub find_outcome-requires-clause-lawful : goal.find_outcome-requires-clause-lawful
find_outcome-requires-clause-lawful c =
    let s = c.args.stood.now in
    let same : c.as_slice-2.result.now ≡ left_of (c.args.number ∷ []) c.args.stood.now.list.now = c.as_slice-2.ensures.value ∙ c.in_ok-left.ensures ∙ ap (λ (ns : List ℕ). left_of ns c.args.stood.now.list.now) c.as_slice.ensures in
    subst (IsLawfulIn s.table.now) (sym same) (left_lawful s.table.now (c.args.number ∷ []) s.list.now c.requires.stood.lawful)

pub returns : goal.returns
returns c =
    let s = c.args.stood.now in
    let same : c.as_slice-2.result.now ≡ left_of (c.args.number ∷ []) c.args.stood.now.list.now = c.as_slice-2.ensures.value ∙ c.in_ok-left.ensures ∙ ap (λ (ns : List ℕ). left_of ns c.args.stood.now.list.now) c.as_slice.ensures in
    IfOk-weaker c.find_outcome.result _ _
    (λ found is. subst (λ (list : List Statement). IsOutcome s.table.now c.args.asks s.answers.now list found) same is)
    c.find_outcome.ensures
