use Rattle.std.proofs.Common.{List, sym, subst, ◌∙◌}
use Rattle.std.proofs.lemmas.Result.{IfOk-weaker}
use Rattle.ror_statement.specs.declared.statement.Numbered.{Numbered}
use Rattle.ror_show_find_core.specs.Withdrawals.{IsLeft, IsOver}
use Rattle.ror_show_find_core.proofs.Left.{left_lawful, left_rises}
use Rattle.ror_show_find_core.proofs.withdrawing.decide_without.Goals as goal

pub decide_over-requires : goal.decide_over-requires
decide_over-requires c =
    let t = c.args.stood.now.table.now in
    let list = c.args.stood.now.list.now in
    subst (λ (left : List Numbered). IsLeft t left c.args.claim.question c.args.claim.conclusion) (sym (c.as_slice.ensures.value ∙ c.in_ok-left.ensures)) (record {
      lawful = left_lawful t c.args.number list c.requires.stood.lawful;
      rising = left_rises c.args.number list c.requires.stood.rising;
      asked = c.requires.carried.asked;
      rests = c.requires.carried.rests;
    })

pub returns : goal.returns
returns c =
    let t = c.args.stood.now.table.now in
    IfOk-weaker c.decide_over.result _ _
    (λ outcome is. subst (λ (left : List Numbered). IsOver t left c.args.claim.question c.args.claim.conclusion outcome) (c.as_slice.ensures.value ∙ c.in_ok-left.ensures) is)
    c.decide_over.ensures
