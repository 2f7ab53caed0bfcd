use Rattle.std.proofs.Common.{rules, ◌≡◌, Some, refl, sym, subst}
use Rattle.std.specs.List.{find}
use Rattle.ror_show_find_reasons.proofs.Found.{found_passes, found_has}
use Rattle.ror_show_find_core.specs.declared.outcomes.Outcome.{Outcome}
use Rattle.ror_show_find_core.specs.Withdrawals.{IsOutcome, IsFoundOutcome, lacks}
use Rattle.ror_show_find_core.proofs.Judging.{as_without}
use Rattle.ror_show_find_core.proofs.withdrawing.withdraw.Goals as goal

pub returns-in_ok-outcome-in-Some : goal.returns-in_ok-outcome-in-Some
returns-in_ok-outcome-in-Some c =
    let t = c.args.stood.now.table.now in
    let list = c.args.stood.now.list.now in
    let q = c.args.claim.question in
    let d = c.args.claim.conclusion in
    let other = c.in-Some.other.now in
    let there : find (lacks c.args.number) c.args.before.now ≡ Some c.in-Some.other.now = search rules in (
      refl,
      subst (λ (o : Outcome). IsOutcome t list q d c.args.number o) (sym c.in_ok-outcome-in-Some.ensures)
          (as_without t list q d c.args.number other c.requires.carried (found_passes (lacks c.args.number) c.args.before.now other there)
          (found_has (IsFoundOutcome t list q d) (lacks c.args.number) c.args.before.now other c.requires.before there)),
    )
